use Rattle.std.proofs.Common.{◌-◌, ◌≤◌, max, Ok}
use Rattle.reservations.proofs.Decreasing.{Decreases}
use Rattle.reservations.proofs.returning.decrease.Given as goal

abbrev pub invariant-loop-at : goal.invariant-loop-at
invariant-loop-at g l =
    record {
      most : l.at ≤ max l.fn.at l.size;
      so : Decreases (g.P.Port.value l.fn.port) (g.P.Port.value l.port) l.owner l.size l.first l.fn.at l.at (Ok tt);
    }

abbrev pub decreases-loop-at : goal.decreases-loop-at
decreases-loop-at g l = l.size - l.at
