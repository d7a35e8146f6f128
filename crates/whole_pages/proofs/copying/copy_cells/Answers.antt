use Rattle.std.proofs.Common.{◌∙◌}
use Rattle.whole_pages.proofs.Filling.{apart_still, copied_more, copied_none, fills, fills_still}
use Rattle.whole_pages.proofs.copying.copy_cells.Goals as goal

pub loop-index-init : goal.loop-index-init
loop-index-init g c = copied_none _ _ _

pub store_cell-requires-clause-writes : goal.store_cell-requires-clause-writes
store_cell-requires-clause-writes g c =
    let v = g.P.Port.value c.args.port.now in
    let u = g.P.Port.value c.loop-index.port in
    let held = c.loop-index.invariant.hand in
    let still = c.look_cell-word.ensures.apart (apart_still v u held c.requires.apart) in
    fills c.look_cell-word.result (fills_still v (g.P.Port.value c.look_cell-word.new.port) (still ∙ held) c.requires.fills)

pub loop-index-preserved : goal.loop-index-preserved
loop-index-preserved g c =
    let still = c.look_cell-word.ensures.apart (apart_still (g.P.Port.value c.args.port.now) (g.P.Port.value c.loop-index.port) c.loop-index.invariant.hand c.requires.apart) in
    copied_more c.requires.fills c.loop-index.invariant c.look_cell-word.ensures.moves still (g.P.Port.value c.store_cell.new.port) c.store_cell.result c.store_cell.ensures.moves c.store_cell.ensures.hand
