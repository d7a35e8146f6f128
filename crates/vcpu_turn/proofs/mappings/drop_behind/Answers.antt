use Rattle.std.proofs.Common.{None, refl, sym, true, false, ◌∙◌}
use Rattle.mmuext_ops.specs.Elements.{every_vcpu}
use Rattle.mmuext_ops.specs.declared.element.Element.TheVariants.{FlushVcpus}
use Rattle.vcpu_turn.proofs.ByAddress.{drops_err, drops_then, element_warm, vcpus_perform}
use Rattle.vcpu_turn.proofs.mappings.drop_behind.Goals as goal

pub returns-in_err-drop_own-clause-drops : goal.returns-in_err-drop_own-clause-drops
returns-in_err-drop_own-clause-drops g c = drops_err _ _ c.from_residual.ensures.1 c.in_err-drop_own.ensures.drops

pub returns-then-waits-clause-drops : goal.returns-then-waits-clause-drops
returns-then-waits-clause-drops g c =
    let e = c.flush_vcpus.ensures in
    drops_then _ _ c.flush_vcpus.result true (sym c.waits.ensures ∙ c.if-waits.true) c.in_ok-drop_own.ensures.drops (vcpus_perform c.args.domain None c.flush_vcpus.result e.serves e.stops e.kinds e.hand e.rests e.awaits e.course)

pub returns-then-waits-clause-warm : goal.returns-then-waits-clause-warm
returns-then-waits-clause-warm g c = element_warm _ _ c.args.domain (FlushVcpus every_vcpu) None c.flush_vcpus.result (c.flush_vcpus.ensures.serves c.args.domain) c.flush_vcpus.ensures.hand c.in_ok-drop_own.ensures.warm

pub returns-else-waits-clause-drops : goal.returns-else-waits-clause-drops
returns-else-waits-clause-drops g c = drops_then _ _ _ false (sym c.waits.ensures ∙ c.if-waits.false) c.in_ok-drop_own.ensures.drops (refl, refl)
