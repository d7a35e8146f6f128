use Rattle.std.proofs.Common.{arith}
use Rattle.machine_draw.proofs.Marks.{marked, unmarked, no_tables, tables_more}
use Rattle.machine_draw.proofs.named.mark_tables.Goals as goal

pub loop-table-init : goal.loop-table-init
loop-table-init c = λ f low. unmarked _ _ (no_tables _ f)

pub loop-table-preserved : goal.loop-table-preserved
loop-table-preserved c = λ f low. marked _ _ _ _ _ _ (c.loop-table.invariant f low) (c.mark_table.ensures f (omega arith)) (tables_more _ _ f)
