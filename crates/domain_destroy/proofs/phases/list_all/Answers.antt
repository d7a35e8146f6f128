use Rattle.std.proofs.Common.{Err, refl, ap, ◌∙◌}
use Rattle.std.proofs.lemmas.Result.{err_from_is_err_and}
use Rattle.domain_destroy.proofs.Phasing.{goes_on_undue, undue_as}
use Rattle.domain_destroy.proofs.phases.list_all.Goals as goal

pub returns-in_err-answer-clause-undue : goal.returns-in_err-answer-clause-undue
returns-in_err-answer-clause-undue g c =
    let answer = err_from_is_err_and c.from_residual.result c.from_residual.ensures.1 in
    undue_as c.in_err-answer.field-0.0 c.from_residual.result (answer.1 ∙ ap Err answer.2) (goes_on_undue c.in_err-answer.ensures.lists.1 refl)
