use Rattle.std.proofs.Common.{length}
use Rattle.level_validate.proofs.Unwound.{Unwinding}
use Rattle.level_validate.proofs.unwinding.unwind.Given as goal

abbrev pub invariant-loop-table : goal.invariant-loop-table
invariant-loop-table g l = Unwinding (g.P.Port.value l.fn.port) (g.P.Port.value l.port) l.owner l.kept l.fn.stack l.stack

abbrev pub decreases-loop-table : goal.decreases-loop-table
decreases-loop-table g l = length l.stack
