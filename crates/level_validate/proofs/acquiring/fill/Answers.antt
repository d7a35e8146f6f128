use Rattle.std.proofs.Common.{Ok, Err, ap, ◌∙◌}
use Rattle.std.proofs.lemmas.Result.{err_from_is_err_and}
use Rattle.level_validate.proofs.Filling.{begun_working, cut_off_working, due_working, working_on, working_stops}
use Rattle.level_validate.proofs.Going.{going_may, going_standing, worked_goes}
use Rattle.level_validate.proofs.acquiring.fill.Goals as goal

pub loop-port-init : goal.loop-port-init
loop-port-init g c = record { course = begun_working _ _ _ c.requires.only _ _ c.in_ok-done.ensures.course c.in_ok-ask_behind.ensures.course }

pub go_on-requires-clause-may : goal.go_on-requires-clause-may
go_on-requires-clause-may g c = going_may (worked_goes c.loop-port.invariant.course.course c.requires.stands c.requires.fresh c.requires.may) c.requires.stands c.requires.may

pub go_on-requires-clause-stands : goal.go_on-requires-clause-stands
go_on-requires-clause-stands g c = going_standing (worked_goes c.loop-port.invariant.course.course c.requires.stands c.requires.fresh c.requires.may) c.requires.stands

pub go_on-requires-clause-ready : goal.go_on-requires-clause-ready
go_on-requires-clause-ready g c = (worked_goes c.loop-port.invariant.course.course c.requires.stands c.requires.fresh c.requires.may).ready

pub loop-port-preserved : goal.loop-port-preserved
loop-port-preserved g c = record { course = working_on _ _ _ _ _ c.loop-port.stack _ (Ok tt) c.loop-port.invariant.course c.in_ok-go_on.ensures.course }

-- ---- an entry stops it, or the gate
pub returns-in_err-done-clause-course : goal.returns-in_err-done-clause-course
returns-in_err-done-clause-course g c =
    let answer = err_from_is_err_and c.from_residual.result c.from_residual.ensures.1 in
    cut_off_working _ _ _ c.requires.only _ _ _ _ (answer.1 ∙ ap Err answer.2) c.in_err-done.ensures.kinds c.in_err-done.ensures.course

pub returns-in_err-ask_behind-clause-course : goal.returns-in_err-ask_behind-clause-course
returns-in_err-ask_behind-clause-course g c =
    let r = c.from_residual-in_err-ask_behind.result in
    let answer = err_from_is_err_and r c.from_residual-in_err-ask_behind.ensures.1 in
    due_working _ _ _ c.requires.only _ _ c.in_ok-done.ensures.course r c.in_err-ask_behind.field-0.0 (answer.1 ∙ ap Err answer.2) c.in_err-ask_behind.ensures.kinds c.in_err-ask_behind.ensures.course

pub returns-in_err-go_on-clause-course : goal.returns-in_err-go_on-clause-course
returns-in_err-go_on-clause-course g c =
    let r = c.from_residual-in_err-go_on.result in
    let answer = err_from_is_err_and r c.from_residual-in_err-go_on.ensures.1 in
    working_stops _ _ _ _ _ c.loop-port.stack _ r _ (answer.1 ∙ ap Err answer.2) c.loop-port.invariant.course c.in_err-go_on.ensures.course
