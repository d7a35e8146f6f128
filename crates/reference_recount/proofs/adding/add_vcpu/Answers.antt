use Rattle.std.proofs.Common.{◌^◌, arith}
use Rattle.xp_words.specs.Places.{sizes_of, memory}
use Rattle.reference_recount.proofs.Asked.{context_most}
use Rattle.reference_recount.proofs.More.{sums-none, sums-more, sums-end, within-sums}
use Rattle.reference_recount.proofs.adding.add_vcpu.Goals as goal

pub loop-number-init : goal.loop-number-init
loop-number-init c = sums-none _ _ _ _

pub add_context-requires-clause-few : goal.add_context-requires-clause-few
add_context-requires-clause-few c =
    let m = memory (sizes_of c.args.layout.now) c.args.words.now in
    within-sums c.args.tallies.now.items c.loop-number.tallies.items (2 ^ 50) 1 c.loop-number.number (2 ^ 60) _ _ _ (omega arith)
    (λ g k. context_most m c.args.vcpu g k) (λ g k. context_most m c.args.vcpu g k) c.requires.few c.loop-number.invariant

pub loop-number-preserved : goal.loop-number-preserved
loop-number-preserved c = sums-more c.args.tallies.now.items c.loop-number.tallies.items _ c.loop-number.number _ _ _ c.loop-number.invariant c.add_context.ensures

pub returns : goal.returns
returns c = sums-end c.args.tallies.now.items c.loop-number.tallies.items c.loop-number.number 38 _ _ _ (omega (arith, c.loop-number.auto.number-end)) c.loop-number.invariant
