use Rattle.xp_words.proofs.Joining.{joined}
use Rattle.report_text.proofs.Blocks.{none_yet}
use Rattle.machine_draw.proofs.Texts.{no_tables, tables_more}
use Rattle.machine_draw.proofs.tables.put_tables.Goals as goal

pub loop-frame-init : goal.loop-frame-init
loop-frame-init c = none_yet _ _ (no_tables _)

pub loop-frame-preserved : goal.loop-frame-preserved
loop-frame-preserved c = rw tables_more (joined _ _ _ _ _ c.loop-frame.invariant c.in_ok-put_table.ensures)
