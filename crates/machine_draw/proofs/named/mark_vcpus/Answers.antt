use Rattle.std.proofs.Common.{arith}
use Rattle.machine_draw.proofs.Marks.{marked, unmarked, no_vcpus, vcpus_more}
use Rattle.machine_draw.proofs.named.mark_vcpus.Goals as goal

pub loop-vcpu-init : goal.loop-vcpu-init
loop-vcpu-init c = λ f low. unmarked _ _ (no_vcpus _ f)

pub loop-vcpu-preserved : goal.loop-vcpu-preserved
loop-vcpu-preserved c = λ f low. marked _ _ _ _ _ _ (c.loop-vcpu.invariant f low) (c.mark_words.ensures f (omega arith)) (vcpus_more _ _ f)
