use Rattle.std.proofs.Common.{◌^◌, arith}
use Rattle.reference_recount.proofs.Asked.{names_most, typed_most, table_most}
use Rattle.reference_recount.proofs.More.{sums-none, sums-more, sums-end, within-sums}
use Rattle.xp_board.specs.Recorded.{names, names_typed}
use Rattle.reference_recount.proofs.adding.add_tables.Goals as goal

pub loop-frame-init : goal.loop-frame-init
loop-frame-init c = sums-none _ _ _ _

pub add_table-requires-clause-few : goal.add_table-requires-clause-few
add_table-requires-clause-few c =
    within-sums c.args.tallies.now.items c.loop-frame.tallies.items 3 1024 c.loop-frame.frame (2 ^ 50) _ _ _ (omega arith)
    (λ g k. table_most (names g) _ k (names_most g)) (λ g k. table_most (names_typed g) _ k (typed_most g)) c.requires.few c.loop-frame.invariant

pub loop-frame-preserved : goal.loop-frame-preserved
loop-frame-preserved c = sums-more c.args.tallies.now.items c.loop-frame.tallies.items _ c.loop-frame.frame _ _ _ c.loop-frame.invariant c.add_table.ensures

pub returns : goal.returns
returns c = sums-end c.args.tallies.now.items c.loop-frame.tallies.items c.loop-frame.frame c.args.layout.now.frames _ _ _ (grind (arith, c.loop-frame.auto.frame-end)) c.loop-frame.invariant
