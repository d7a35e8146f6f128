use Rattle.std.proofs.Common.{Err, refl, ap, ◌∙◌}
use Rattle.std.proofs.lemmas.Result.{err_from_is_err_and}
use Rattle.domain_destroy.specs.Course as course
use Rattle.domain_destroy.specs.declared.place.DestroyAt.TheVariants.{Begins, Stops}
use Rattle.domain_destroy.proofs.Phasing.{ends_there, keeps_self, past_begins, phase_past, refused_undue, stops_there}
use Rattle.domain_destroy.proofs.phases.start.Goals as goal

pub returns-in_err-begin-clause-went : goal.returns-in_err-begin-clause-went
returns-in_err-begin-clause-went g c =
    let v = g.P.Port.value c.args.port.now in
    let w = g.P.Port.value c.begin.new.port in
    let a = c.in_err-begin.ensures in
    let answer = err_from_is_err_and c.from_residual.result c.from_residual.ensures.1 in
    stops_there v w c.args.domain c.args.at.now Begins c.in-Begins.is c.in_err-begin.field-0.0 c.from_residual.result (answer.1 ∙ ap Err answer.2) c.requires.rests c.requires.clear a.hand a.serves a.stops a.kinds
    (course.Advances.refused w c.in_err-begin.field-0.0 a.by)

pub returns-in_ok-begin-clause-went : goal.returns-in_ok-begin-clause-went
returns-in_ok-begin-clause-went g c =
    let v = g.P.Port.value c.args.port.now in
    let w = g.P.Port.value c.begin.new.port in
    let a = c.in_ok-begin.ensures in
    ends_there v w c.args.domain c.args.at.now Begins (Stops 0) c.in-Begins.is c.requires.rests c.requires.clear a.hand a.serves (course.Advances.begun w a.by)

pub returns-in_err-begin-clause-undue : goal.returns-in_err-begin-clause-undue
returns-in_err-begin-clause-undue g c =
    let answer = err_from_is_err_and c.from_residual.result c.from_residual.ensures.1 in
    refused_undue _ _ c.args.domain c.in_err-begin.field-0.0 c.from_residual.result (answer.1 ∙ ap Err answer.2) c.in_err-begin.ensures.by

pub returns-in_default : goal.returns-in_default
returns-in_default g c =
    let v = g.P.Port.value c.args.port.now in
    record {
      went = phase_past v c.args.domain c.args.at.now c.requires.rests c.requires.clear;
      come = keeps_self v c.args.domain c.args.at.now;
      past = past_begins c.args.at.now c.in_default.not-Begins;
      undue = refl;
    }
