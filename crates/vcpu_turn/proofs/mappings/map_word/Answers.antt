use Rattle.std.proofs.Common.{arith}
use Rattle.mmuext_ops.specs.Elements.{every_vcpu}
use Rattle.mmuext_ops.specs.declared.element.Element.TheVariants.{FlushVcpus}
use Rattle.vcpu_turn.proofs.ByAddress.{element_warm, maps_set, maps_unset, maps_waited, vcpus_perform, waits_undue}
use Rattle.vcpu_turn.proofs.mappings.map_word.Goals as goal

pub returns-in_err-update_entry-clause-works : goal.returns-in_err-update_entry-clause-works
returns-in_err-update_entry-clause-works g c = maps_unset c.args.done.now c.if-done-eq0.true _ c.from_residual.result c.from_residual.ensures.1 c.in_err-update_entry.ensures.updates

pub returns-then-done-eq0-clause-works : goal.returns-then-done-eq0-clause-works
returns-then-done-eq0-clause-works g c =
    let d = c.drop_behind-answer in
    maps_set c.args.done.now c.done_behind.result c.if-done-eq0.true d.result c.done_behind.ensures d.ensures.undue c.in_ok-update_entry.ensures.updates d.ensures.drops

pub returns-clause-works : goal.returns-clause-works
returns-clause-works g c =
    let e = c.flush_vcpus-answer.ensures in
    let answer = c.flush_vcpus-answer.result in
    let within = c.requires.within in
    let off = c.if-done-eq0.false in
    maps_waited c.args.done.now c.done_behind-2.result (omega (arith, within, off)) answer c.done_behind-2.ensures (waits_undue answer e.kinds)
    (vcpus_perform c.args.domain c.args.awaited answer e.serves e.stops e.kinds e.hand e.rests e.awaits e.course)

pub returns-clause-warm : goal.returns-clause-warm
returns-clause-warm g c = element_warm _ _ c.args.domain (FlushVcpus every_vcpu) c.args.awaited c.flush_vcpus-answer.result (c.flush_vcpus-answer.ensures.serves c.args.domain) c.flush_vcpus-answer.ensures.hand c.requires.warm
