use Rattle.std.proofs.Common.{◌≡◌, ◌∙◌, length, refl, arith}
use Rattle.std.proofs.Math.ListN.{length-set}
use Rattle.xp_words.specs.Places.{sizes_of, size}
use Rattle.machine_build.proofs.Steps.{put_vcpu, no_vcpus}
use Rattle.machine_build.proofs.rows.put_vcpus.Goals as goal

pub loop-vcpu-init : goal.loop-vcpu-init
loop-vcpu-init c = (refl, no_vcpus _ _)

pub loop-vcpu-preserved : goal.loop-vcpu-preserved
loop-vcpu-preserved c =
    let count : length c.loop-vcpu.words ≡ size (sizes_of c.args.layout.now) = c.loop-vcpu.invariant.0 ∙ c.requires.count in (
      rw c.set.ensures (length-set c.loop-vcpu.words c.vcpu_place.result c.args.clock) ∙ c.loop-vcpu.invariant.0,
      λ p. rw (c.set.ensures, c.vcpu_place.ensures) (put_vcpu _ _ _ _ _ count (omega arith) c.loop-vcpu.invariant.1 p),
    )
