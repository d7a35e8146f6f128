use Rattle.std.proofs.Common.{◌≡◌, ◌^◌, None, ◌∙◌, ap, arith}
use Rattle.xp_words.specs.Places.{sizes_of, memory}
use Rattle.xp_board.specs.Readings.{kind_at}
use Rattle.xp_board.specs.Recorded.{entry_demand, held_of}
use Rattle.reference_recount.proofs.Asked.{names_most, typed_most, whole_table, same_demand}
use Rattle.reference_recount.proofs.More.{sums-none, sums-more, within-sums}
use Rattle.reference_recount.proofs.adding.add_table.Goals as goal

pub loop-index-init : goal.loop-index-init
loop-index-init c = sums-none _ _ _ _

pub add_demand-requires-clause-few : goal.add_demand-requires-clause-few
add_demand-requires-clause-few c =
    within-sums c.args.tallies.now.items c.loop-index.tallies.items (2 ^ 50) 1 c.loop-index.index (2 ^ 60) _ _ _ (omega arith) (λ g k. names_most g _) (λ g k. typed_most g _) c.requires.few c.loop-index.invariant

pub loop-index-preserved : goal.loop-index-preserved
loop-index-preserved c =
    let m = memory (sizes_of c.args.layout.now) c.args.words.now in
    let same : c.demand.result ≡ entry_demand m c.args.frame c.loop-index.index = cc in
    sums-more c.args.tallies.now.items c.loop-index.tallies.items _ c.loop-index.index _ _ _ c.loop-index.invariant (same_demand c.args.kinds.now c.loop-index.tallies.items _ c.demand.result _ same c.add_demand.ensures)

pub returns : goal.returns
returns c =
    let m = memory (sizes_of c.args.layout.now) c.args.words.now in
    let last : c.loop-index.index ≡ c.recorded_entries-end.result = omega (arith, c.loop-index.auto.index-end) in
    let held : c.loop-index.index ≡ held_of (kind_at m c.args.frame) None = last ∙ c.recorded_entries-end.ensures.entries ∙ ap (λ k. held_of k None) c.kind_of-kind.ensures.kind in
    whole_table c.args.kinds.now m c.args.tallies.now.items c.loop-index.tallies.items c.args.frame c.loop-index.index held c.loop-index.invariant
