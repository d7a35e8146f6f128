use Rattle.xp_words.proofs.Joining.{joined}
use Rattle.report_text.proofs.Blocks.{none_yet}
use Rattle.machine_draw.proofs.Texts.{no_vcpus, vcpus_more}
use Rattle.machine_draw.proofs.vcpus.put_vcpus.Goals as goal

pub loop-vcpu-init : goal.loop-vcpu-init
loop-vcpu-init c = none_yet _ _ (no_vcpus _ _)

pub loop-vcpu-preserved : goal.loop-vcpu-preserved
loop-vcpu-preserved c = rw vcpus_more (joined _ _ _ _ _ c.loop-vcpu.invariant c.in_ok-put_vcpu.ensures)
