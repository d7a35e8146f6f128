use Rattle.std.proofs.Common.{◌∙◌, ◌&&◌, Err, Ok, sym, ap, subst}
use Rattle.level_release.proofs.HandsRunning.{running, running_may, running_stands}
use Rattle.std.proofs.lemmas.Result.{err_from_is_err_and}
use Rattle.level_release.specs.Course.{Lowered, is_asked_within}
use Rattle.level_release.proofs.CoursesRun.{runs_due, runs_nothing, runs_on, runs_stopped, runs_unasked}
use Rattle.level_release.proofs.emptying.run_down.Goals as goal

pub lower-requires-clause-may : goal.lower-requires-clause-may
lower-requires-clause-may g c = running_may (running c.loop-below.invariant.course.course) c.requires.stands c.requires.may

pub lower-requires-clause-stands : goal.lower-requires-clause-stands
lower-requires-clause-stands g c = running_stands (running c.loop-below.invariant.course.course) c.requires.stands

pub loop-below-init : goal.loop-below-init
loop-below-init g c = record { course = runs_nothing }

-- ---- an entry, or a table, stops it
pub returns-in_err-lower-clause-course : goal.returns-in_err-lower-clause-course
returns-in_err-lower-clause-course g c =
    let answer = err_from_is_err_and c.from_residual.result c.from_residual.ensures.1 in
    runs_stopped c.loop-below.invariant.course (g.P.Port.value c.lower.new.port) c.lower.new.stack c.in_err-lower.was (answer.1 ∙ ap Err answer.2) c.lower.ensures.course c.lower.ensures.undue

-- ---- the gate says yes
pub returns-then-due-clause-course : goal.returns-then-due-clause-course
returns-then-due-clause-course g c =
    let w = g.P.Port.value c.lower.new.port in
    runs_due c.loop-below.invariant.course w c.lower.new.stack (subst (λ b. Lowered (g.P.Port.value c.loop-below.port) c.loop-below.stack w c.lower.new.stack (Ok b)) c.if-branch.true
    c.in_ok-lower.ensures.course) (sym c.if-is_asked.ensures) c.if-due.ensures

-- ---- or no
pub loop-below-preserved-else-due : goal.loop-below-preserved-else-due
loop-below-preserved-else-due g c =
    let w = g.P.Port.value c.lower.new.port in
    let xs = c.lower.new.stack in
    let lowered = subst (λ b. Lowered (g.P.Port.value c.loop-below.port) c.loop-below.stack w xs (Ok b)) c.if-branch.true c.in_ok-lower.ensures.course in
    record { course = runs_on c.loop-below.invariant.course w xs lowered (sym c.if-is_asked.ensures) c.if-due.ensures }

-- ---- it is not asked
pub loop-below-preserved-else-is_asked : goal.loop-below-preserved-else-is_asked
loop-below-preserved-else-is_asked g c =
    let w = g.P.Port.value c.lower.new.port in
    let xs = c.lower.new.stack in
    let lowered = subst (λ b. Lowered (g.P.Port.value c.loop-below.port) c.loop-below.stack w xs (Ok b)) c.if-branch.true c.in_ok-lower.ensures.course in
    record { course = runs_unasked c.loop-below.invariant.course w xs lowered (sym c.if-is_asked.ensures) }

pub loop-below-preserved : goal.loop-below-preserved
loop-below-preserved g c =
    let xs = c.lower.new.stack in
    record { course = runs_unasked c.loop-below.invariant.course (g.P.Port.value c.lower.new.port) xs c.in_ok-lower.ensures.course (ap (λ b. b && is_asked_within c.args.below xs) c.if-branch.false) }
