use Rattle.std.proofs.Common.{◌∷◌, ap, ◌∙◌}
use Rattle.step_maker.proofs.Coming.{came_trans}
use Rattle.level_release.proofs.HandsRunning.{emptied_dead, emptied_named, emptied_settled, emptied_unwinds, running}
use Rattle.level_release.proofs.CoursesRun.{empties_finished, empties_paused}
use Rattle.level_release.proofs.emptying.empty.Goals as goal

pub unwind-requires : goal.unwind-requires
unwind-requires g c = emptied_unwinds (c.push.ensures.pushed ∙ ap (λ ts. c.args.table ∷ ts) c.new-stack.ensures) (running c.run_down.ensures.course.course) c.requires c.in-Err.ensures.some

pub returns-in-Ok-clause-came : goal.returns-in-Ok-clause-came
returns-in-Ok-clause-came g c = (running c.run_down.ensures.course.course).came

pub returns-in-Ok-clause-hand : goal.returns-in-Ok-clause-hand
returns-in-Ok-clause-hand g c = emptied_dead (c.push.ensures.pushed ∙ ap (λ ts. c.args.table ∷ ts) c.new-stack.ensures) (running c.run_down.ensures.course.course) c.in-Ok.ensures.emptied

pub returns-in-Err-clause-came : goal.returns-in-Err-clause-came
returns-in-Err-clause-came g c = came_trans _ (g.P.Port.value c.run_down.new.port) _ (running c.run_down.ensures.course.course).came c.unwind.ensures.came

pub returns-in-Err-clause-hand : goal.returns-in-Err-clause-hand
returns-in-Err-clause-hand g c =
    emptied_named (c.push.ensures.pushed ∙ ap (λ ts. c.args.table ∷ ts) c.new-stack.ensures) (running c.run_down.ensures.course.course) c.in-Err.ensures.some (g.P.Port.value c.unwind.new.port) c.unwind.ensures.hand

pub returns-in-Err-clause-settled : goal.returns-in-Err-clause-settled
returns-in-Err-clause-settled g c = emptied_settled (c.push.ensures.pushed ∙ ap (λ ts. c.args.table ∷ ts) c.new-stack.ensures) (running c.in-Err.ensures.course.course) c.requires.stands

-- ---- nothing is left
pub returns-in-Ok-clause-course : goal.returns-in-Ok-clause-course
returns-in-Ok-clause-course g c =
    empties_finished c.args.left.now (g.P.Port.value c.args.port.now) (g.P.Port.value c.run_down.new.port) c.run_down.new.stack
    (c.push.ensures.pushed ∙ ap (λ ts. c.args.table ∷ ts) c.new-stack.ensures) c.in-Ok.ensures.emptied c.in-Ok.ensures.course

-- ---- the rest is left partial
pub returns-in-Err-clause-course : goal.returns-in-Err-clause-course
returns-in-Err-clause-course g c =
    empties_paused c.args.left.now (g.P.Port.value c.args.port.now) (g.P.Port.value c.run_down.new.port) c.run_down.new.stack
    (c.push.ensures.pushed ∙ ap (λ ts. c.args.table ∷ ts) c.new-stack.ensures) c.left_by.ensures c.unwind.ensures.course c.in-Err.ensures.course
