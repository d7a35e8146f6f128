use Rattle.std.proofs.Common.{Err, refl, ap, ◌∙◌}
use Rattle.std.proofs.lemmas.Result.{err_from_is_err_and}
use Rattle.domain_destroy.proofs.Phasing.{goes_on_undue, keeps_self, past_stops, phase_past, stopped_ends, stopped_opens, undue_as}
use Rattle.domain_destroy.proofs.phases.stop_all.Goals as goal

pub returns-in_err-answer-clause-undue : goal.returns-in_err-answer-clause-undue
returns-in_err-answer-clause-undue g c =
    let answer = err_from_is_err_and c.from_residual.result c.from_residual.ensures.1 in
    undue_as c.in_err-answer.field-0.0 c.from_residual.result (answer.1 ∙ ap Err answer.2) (goes_on_undue c.in_err-answer.ensures.course refl)

pub returns-in_ok-answer-clause-went : goal.returns-in_ok-answer-clause-went
returns-in_ok-answer-clause-went g c =
    let a = c.in_ok-answer.ensures in
    stopped_ends (g.P.Port.value c.args.port.now) (g.P.Port.value c.find_stopped-answer.new.port) c.args.domain c.args.at.now c.in-Stops.vcpu c.find_stopped-answer.new.at c.in-Stops.is c.requires.rests c.requires.clear a.hand a.serves a.course
    a.all

pub returns-in_ok-answer-clause-come : goal.returns-in_ok-answer-clause-come
returns-in_ok-answer-clause-come g c =
    let a = c.in_ok-answer.ensures in
    stopped_opens (g.P.Port.value c.args.port.now) (g.P.Port.value c.find_stopped-answer.new.port) c.args.domain c.args.at.now c.in-Stops.vcpu c.find_stopped-answer.new.at c.in-Stops.is a.come a.all

pub returns-in_default : goal.returns-in_default
returns-in_default g c =
    let v = g.P.Port.value c.args.port.now in
    record {
      went = phase_past v c.args.domain c.args.at.now c.requires.rests c.requires.clear;
      come = keeps_self v c.args.domain c.args.at.now;
      past = past_stops c.args.at.now c.requires.phase c.in_default.not-Stops;
      undue = refl;
    }
