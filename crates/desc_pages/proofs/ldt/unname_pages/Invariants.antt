use Rattle.std.proofs.Common.{◌≤◌}
use Rattle.desc_pages.specs.Ldt.{UnnamesAll}
use Rattle.desc_pages.proofs.ldt.unname_pages.Given as goal

abbrev pub invariant-loop-left : goal.invariant-loop-left
invariant-loop-left g l = (l.left ≤ 16) × UnnamesAll (g.P.Port.value l.fn.port) (g.P.Port.value l.port) l.left

abbrev pub decreases-loop-left : goal.decreases-loop-left
decreases-loop-left g l = l.left
