use Rattle.std.proofs.Common.{arith}
use Rattle.machine_draw.proofs.Marks.{marked, unmarked, no_entries, entries_more}
use Rattle.machine_draw.proofs.named.mark_entries.Goals as goal

pub loop-index-init : goal.loop-index-init
loop-index-init c = λ f low. unmarked _ _ (no_entries _ _ _ f)

pub loop-index-preserved : goal.loop-index-preserved
loop-index-preserved c = λ f low. marked _ _ _ _ _ _ (c.loop-index.invariant f low) (rw (c.entry_target-target.ensures, c.word.ensures) at (c.mark.ensures f (omega arith))) (entries_more _ _ _ _ f)
