use Rattle.std.proofs.Common.{append_assoc, refl}
use Rattle.trace_text.proofs.Texts.{scripts_at}
use Rattle.trace_text.proofs.write.put_scripts.Goals as goal

pub loop-vcpu-preserved : goal.loop-vcpu-preserved
loop-vcpu-preserved c =
    rw (c.in_ok-put_script.ensures, c.loop-vcpu.invariant, scripts_at c.args.scripts.now c.loop-vcpu.vcpu c.index-scripts-vcpu.result c.loop-vcpu-test.true, ← c.index-scripts-vcpu.is, c.as_slice.ensures, append_assoc) refl
