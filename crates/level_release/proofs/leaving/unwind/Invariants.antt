use Rattle.std.proofs.Common.{length}
use Rattle.level_release.proofs.CoursesUnwound.{Unwinding}
use Rattle.level_release.proofs.HandsUnwinding.{LeavingDown}
use Rattle.level_release.proofs.leaving.unwind.Given as goal

abbrev pub invariant-loop-table : goal.invariant-loop-table
invariant-loop-table g l = record {
  hands : LeavingDown (g.P.Port.value l.fn.port) (g.P.Port.value l.port) l.fn.stack l.stack;
  goes : Unwinding (g.P.Port.value l.fn.port) (g.P.Port.value l.port) l.fn.stack l.stack;
}

abbrev pub decreases-loop-table : goal.decreases-loop-table
decreases-loop-table g l = length l.stack
