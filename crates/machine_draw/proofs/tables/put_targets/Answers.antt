use Rattle.xp_words.proofs.Joining.{joined}
use Rattle.report_text.proofs.Blocks.{none_yet}
use Rattle.machine_draw.proofs.Texts.{no_targets, targets_more}
use Rattle.machine_draw.proofs.tables.put_targets.Goals as goal

pub loop-index-init : goal.loop-index-init
loop-index-init c = none_yet _ _ (no_targets _ _)

pub loop-index-preserved : goal.loop-index-preserved
loop-index-preserved c = rw targets_more (joined _ _ _ _ _ c.loop-index.invariant c.in_ok-put_target.ensures)
