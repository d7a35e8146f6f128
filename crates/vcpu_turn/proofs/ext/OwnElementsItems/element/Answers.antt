use Rattle.std.proofs.Common.{sym}
use Rattle.xp_preempt.proofs.Consulting.{past_as}
use Rattle.vcpu_turn.specs.Ext.{FitsExt, awaited_for}
use Rattle.vcpu_turn.proofs.Awaiting.{knows_for}
use Rattle.vcpu_turn.proofs.Extending.{behind_performed, behind_unsettled, of_number, settle_answers}
use Rattle.vcpu_turn.proofs.Staying.{suits_ext_performed, suits_ext_settled}
use Rattle.vcpu_turn.proofs.ext.OwnElementsItems.element.Goals as goal

pub returns-in_err-settle-clause-suits : goal.returns-in_err-settle-clause-suits
returns-in_err-settle-clause-suits g c =
    let s = c.settle.ensures in
    suits_ext_settled _ _ _ _ c.settle.result s.serves s.hand c.requires.suits

pub returns-in_err-settle-clause-fits : goal.returns-in_err-settle-clause-fits
returns-in_err-settle-clause-fits g c =
    let s = c.in_err-settle.ensures in
    let x = c.args.self.now in
    of_number (FitsExt x.domain (awaited_for x.from x.awaited c.args.index)) x.elements.now c.args.index (record { command = 0; first = 0; second = 0 }) c.requires.index
    (behind_unsettled _ _ c.from_residual.ensures.1 (settle_answers s.serves s.stops s.kinds s.rests s.clear s.clear_too s.course))

pub perform-requires-clause-own : goal.perform-requires-clause-own
perform-requires-clause-own g c =
    let s = c.settle.ensures in
    (suits_ext_settled _ _ _ _ c.settle.result s.serves s.hand c.requires.suits).domain

pub perform-requires-clause-known : goal.perform-requires-clause-known
perform-requires-clause-known g c =
    let s = c.settle.ensures in
    let x = c.args.self.now in
    knows_for (g.P.Port.value c.settle.new.port) x.from x.awaited c.args.index _ c.awaited_for-awaited.ensures (suits_ext_settled _ _ _ _ c.settle.result s.serves s.hand c.requires.suits).knows

pub returns-clause-suits : goal.returns-clause-suits
returns-clause-suits g c =
    let s = c.settle.ensures in
    let p = c.perform.ensures in
    suits_ext_performed _ _ _ _ _ _ _ c.perform.result p.serves p.hand (suits_ext_settled _ _ _ _ c.settle.result s.serves s.hand c.requires.suits)

pub returns-clause-fits : goal.returns-clause-fits
returns-clause-fits g c =
    let s = c.in_ok-settle.ensures in
    let p = c.perform.ensures in
    let x = c.args.self.now in
    rw (sym c.awaited_for-awaited.ensures)
    (of_number (FitsExt x.domain c.awaited_for-awaited.result) x.elements.now c.args.index (record { command = 0; first = 0; second = 0 }) c.requires.index
    (behind_performed (settle_answers s.serves s.stops s.kinds s.rests s.clear s.clear_too s.course)
    (past_as (λ due. due)
    (λ answers course. record { serves = p.serves; stops = p.stops; kinds = p.kinds; numbers = p.numbers; hand = p.hand; rests = p.rests; awaits = p.awaits; course = course }) p.course)))
