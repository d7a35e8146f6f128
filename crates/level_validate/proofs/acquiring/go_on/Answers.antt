use Rattle.std.proofs.Common.{Err, ap, ◌∙◌}
use Rattle.std.proofs.lemmas.Result.{err_from_is_err_and}
use Rattle.level_validate.proofs.Filling.{asked_going, stopped_going}
use Rattle.level_validate.proofs.acquiring.go_on.Goals as goal

pub returns-in_err-done-clause-course : goal.returns-in_err-done-clause-course
returns-in_err-done-clause-course g c =
    let answer = err_from_is_err_and c.from_residual.result c.from_residual.ensures.1 in
    stopped_going _ _ _ _ _ _ _ (answer.1 ∙ ap Err answer.2) c.in_err-done.ensures.undue c.in_err-done.ensures.course

pub returns-clause-course : goal.returns-clause-course
returns-clause-course g c =
    asked_going _ _ _ _ _ c.in_ok-done.done c.in_ok-done.ensures.course _ c.ask_behind.ensures.kinds c.ask_behind.ensures.course
