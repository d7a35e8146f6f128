use Rattle.report_text.proofs.Blocks.{no_vcpus, vcpus_more, none_yet}
use Rattle.xp_words.proofs.Joining.{joined}
use Rattle.report_text.proofs.whole.put_vcpus.Goals as goal

pub loop-vcpu-init : goal.loop-vcpu-init
loop-vcpu-init c = none_yet _ _ (no_vcpus _ _ _)

pub loop-vcpu-preserved : goal.loop-vcpu-preserved
loop-vcpu-preserved c =
    rw (vcpus_more, ← c.log_of.ensures) (joined _ _ _ _ _ c.loop-vcpu.invariant c.in_ok-put_vcpu.ensures)
