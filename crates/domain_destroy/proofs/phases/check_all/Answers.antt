use Rattle.std.proofs.Common.{Err, refl, ap, ◌∙◌}
use Rattle.std.proofs.lemmas.Result.{err_from_is_err_and}
use Rattle.domain_destroy.specs.declared.place.DestroyAt.TheVariants.{Checks, Lists}
use Rattle.domain_destroy.proofs.Parts.{destroy_came}
use Rattle.domain_destroy.proofs.Phasing.{advances_undue, checked_keeps, checked_opens, ends_there, keeps_self, past_checks, phase_past, stops_there, undue_as}
use Rattle.domain_destroy.proofs.phases.check_all.Goals as goal

pub returns-in_err-find_unused-clause-went : goal.returns-in_err-find_unused-clause-went
returns-in_err-find_unused-clause-went g c =
    let v = g.P.Port.value c.args.port.now in
    let w = g.P.Port.value c.find_unused.new.port in
    let a = c.in_err-find_unused.ensures in
    let answer = err_from_is_err_and c.from_residual.result c.from_residual.ensures.1 in
    stops_there v w c.args.domain c.args.at.now Checks c.in-Checks.is c.in_err-find_unused.field-0.0 c.from_residual.result (answer.1 ∙ ap Err answer.2) c.requires.rests c.requires.clear a.hand a.serves a.stops a.kinds a.course

pub returns-in_err-find_unused-clause-come : goal.returns-in_err-find_unused-clause-come
returns-in_err-find_unused-clause-come g c =
    let v = g.P.Port.value c.args.port.now in
    let w = g.P.Port.value c.find_unused.new.port in
    checked_keeps v w c.args.domain c.args.at.now c.in-Checks.is (destroy_came v w c.args.domain _ c.in_err-find_unused.ensures.serves)

pub returns-in_err-find_unused-clause-undue : goal.returns-in_err-find_unused-clause-undue
returns-in_err-find_unused-clause-undue g c =
    let answer = err_from_is_err_and c.from_residual.result c.from_residual.ensures.1 in
    undue_as c.in_err-find_unused.field-0.0 c.from_residual.result (answer.1 ∙ ap Err answer.2) (advances_undue c.in_err-find_unused.ensures.course refl)

pub returns-in_ok-find_unused-clause-went : goal.returns-in_ok-find_unused-clause-went
returns-in_ok-find_unused-clause-went g c =
    let a = c.in_ok-find_unused.ensures in
    ends_there (g.P.Port.value c.args.port.now) (g.P.Port.value c.find_unused.new.port) c.args.domain c.args.at.now Checks (Lists 0 0) c.in-Checks.is c.requires.rests c.requires.clear a.hand a.serves a.course

pub returns-in_ok-find_unused-clause-come : goal.returns-in_ok-find_unused-clause-come
returns-in_ok-find_unused-clause-come g c =
    checked_opens (g.P.Port.value c.args.port.now) (g.P.Port.value c.find_unused.new.port) c.args.domain c.args.at.now c.in-Checks.is c.in_ok-find_unused.ensures.come

pub returns-in_default : goal.returns-in_default
returns-in_default g c =
    let v = g.P.Port.value c.args.port.now in
    record {
      went = phase_past v c.args.domain c.args.at.now c.requires.rests c.requires.clear;
      come = keeps_self v c.args.domain c.args.at.now;
      past = past_checks c.args.at.now c.requires.phase c.in_default.not-Checks;
      undue = refl;
    }
