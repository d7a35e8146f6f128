use Rattle.std.proofs.Common.{append_assoc, refl}
use Rattle.trace_text.proofs.Texts.{masks_at}
use Rattle.trace_text.proofs.write.put_masks.Goals as goal

pub loop-domain-preserved : goal.loop-domain-preserved
loop-domain-preserved c =
    rw (c.in_ok-put_mask.ensures, c.loop-domain.invariant, masks_at c.args.domains c.args.masks.now c.loop-domain.domain 0 c.loop-domain-test.true, append_assoc) refl
