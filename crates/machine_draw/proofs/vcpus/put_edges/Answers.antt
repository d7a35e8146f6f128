use Rattle.xp_words.proofs.Joining.{joined}
use Rattle.report_text.proofs.Blocks.{none_yet}
use Rattle.machine_draw.proofs.Texts.{no_edges, edges_more}
use Rattle.machine_draw.proofs.vcpus.put_edges.Goals as goal

pub loop-vcpu-init : goal.loop-vcpu-init
loop-vcpu-init c = none_yet _ _ (no_edges _)

pub loop-vcpu-preserved : goal.loop-vcpu-preserved
loop-vcpu-preserved c = rw edges_more (joined _ _ _ _ _ c.loop-vcpu.invariant c.in_ok-put_words.ensures)
