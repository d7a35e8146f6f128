use Rattle.xp_words.proofs.Joining.{joined}
use Rattle.report_text.proofs.Blocks.{none_yet}
use Rattle.machine_draw.proofs.Texts.{no_words, words_more}
use Rattle.machine_draw.proofs.vcpus.put_words.Goals as goal

pub loop-index-init : goal.loop-index-init
loop-index-init c = none_yet _ _ (no_words _ _)

pub loop-index-preserved : goal.loop-index-preserved
loop-index-preserved c = rw words_more (joined _ _ _ _ _ c.loop-index.invariant c.in_ok-put_word.ensures)
