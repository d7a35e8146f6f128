use Rattle.std.proofs.Common.{refl}
use Rattle.vcpu_turn.proofs.Calling.{call_answered, call_paused, call_refused, call_unsettled}
use Rattle.vcpu_turn.proofs.Extending.{settle_answers}
use Rattle.vcpu_turn.proofs.Staying.{knows_on, settled_came}
use Rattle.vcpu_turn.proofs.calls.answer_call.Goals as goal

pub returns-in_err-settle-clause-awaits : goal.returns-in_err-settle-clause-awaits
returns-in_err-settle-clause-awaits g c = knows_on _ _ _ (settled_came _ _ c.settle.result c.settle.ensures.serves) c.requires.awaits

pub returns-in_err-settle-clause-answers : goal.returns-in_err-settle-clause-answers
returns-in_err-settle-clause-answers g c =
    let s = c.in_err-settle.ensures in
    call_unsettled _ _ c.from_residual.ensures.1 (settle_answers s.serves s.stops s.kinds s.rests s.clear s.clear_too s.course)

pub work_on-requires-clause-awaits : goal.work_on-requires-clause-awaits
work_on-requires-clause-awaits g c = knows_on _ _ _ (settled_came _ _ c.settle.result c.settle.ensures.serves) c.requires.awaits

pub returns-in-Ok-clause-answers : goal.returns-in-Ok-clause-answers
returns-in-Ok-clause-answers g c =
    let s = c.in_ok-settle.ensures in
    let e = c.end_call.ensures in
    call_answered (settle_answers s.serves s.stops s.kinds s.rests s.clear s.clear_too s.course) _ _ refl refl c.in-Ok.ensures.went _ e.cuts _ e.lines _ e.at

pub returns-in-Err-Refused-clause-answers : goal.returns-in-Err-Refused-clause-answers
returns-in-Err-Refused-clause-answers g c =
    let s = c.in_ok-settle.ensures in
    let e = c.end_call-in-Err-Refused.ensures in
    call_refused (settle_answers s.serves s.stops s.kinds s.rests s.clear s.clear_too s.course) _ c.in-Err-Refused.refusal c.in-Err-Refused.field-0-is c.in-Err-Refused.ensures.went _ e.cuts _ e.lines _ e.at

pub returns-in-Err-Paused-clause-answers : goal.returns-in-Err-Paused-clause-answers
returns-in-Err-Paused-clause-answers g c =
    let s = c.in_ok-settle.ensures in
    call_paused (settle_answers s.serves s.stops s.kinds s.rests s.clear s.clear_too s.course) _ c.in-Err-Paused.pause c.in-Err-Paused.field-0-is c.in-Err-Paused.ensures.went
