use Rattle.std.proofs.Common.{◌^◌, arith}
use Rattle.xp_words.specs.Places.{sizes_of, memory}
use Rattle.reference_recount.specs.Growth.{context_names}
use Rattle.reference_recount.proofs.Asked.{context_most}
use Rattle.reference_recount.proofs.More.{sum_most, sums-none, sums-more, within-sums}
use Rattle.reference_recount.proofs.adding.add_vcpus.Goals as goal

pub loop-vcpu-init : goal.loop-vcpu-init
loop-vcpu-init c = sums-none _ _ _ _

pub add_vcpu-requires-clause-few : goal.add_vcpu-requires-clause-few
add_vcpu-requires-clause-few c =
    let m = memory (sizes_of c.args.layout.now) c.args.words.now in
    within-sums c.args.tallies.now.items c.loop-vcpu.tallies.items (2 ^ 48) 38 c.loop-vcpu.vcpu (2 ^ 50) _ _ _ (omega arith)
    (λ g v. sum_most 38 1 (context_names m v g) (context_most m v g)) (λ g v. sum_most 38 1 (context_names m v g) (context_most m v g)) c.requires.few c.loop-vcpu.invariant

pub loop-vcpu-preserved : goal.loop-vcpu-preserved
loop-vcpu-preserved c = sums-more c.args.tallies.now.items c.loop-vcpu.tallies.items _ c.loop-vcpu.vcpu _ _ _ c.loop-vcpu.invariant c.add_vcpu.ensures
