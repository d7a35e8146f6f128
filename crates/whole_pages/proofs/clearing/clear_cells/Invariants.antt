use Rattle.whole_pages.specs.Whole.{Clears}
use Rattle.whole_pages.proofs.clearing.clear_cells.Given as goal

abbrev pub invariant-loop-index : goal.invariant-loop-index
invariant-loop-index g l = Clears (g.P.Port.value l.fn.port) (g.P.Port.value l.port) l.frame l.index
