use Rattle.whole_pages.proofs.Filling.{cleared_more, cleared_none, fills, fills_still}
use Rattle.whole_pages.proofs.clearing.clear_cells.Goals as goal

pub loop-index-init : goal.loop-index-init
loop-index-init g c = cleared_none _ _

pub store_cell-requires-clause-writes : goal.store_cell-requires-clause-writes
store_cell-requires-clause-writes g c = fills 0 (fills_still (g.P.Port.value c.args.port.now) (g.P.Port.value c.loop-index.port) c.loop-index.invariant.hand c.requires.fills)

pub loop-index-preserved : goal.loop-index-preserved
loop-index-preserved g c = cleared_more c.requires.fills c.loop-index.invariant c.store_cell.ensures.moves c.store_cell.ensures.hand
