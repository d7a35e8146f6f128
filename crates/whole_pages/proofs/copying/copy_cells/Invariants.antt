use Rattle.whole_pages.specs.Whole.{Copies}
use Rattle.whole_pages.proofs.copying.copy_cells.Given as goal

abbrev pub invariant-loop-index : goal.invariant-loop-index
invariant-loop-index g l = Copies (g.P.Port.value l.fn.port) (g.P.Port.value l.port) l.target l.source l.index
