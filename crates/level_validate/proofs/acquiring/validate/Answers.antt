use Rattle.std.proofs.Common.{◌≡◌, ◌<◌, ◌∷◌, ◌∙◌, [], List, length, sym, ap, subst}
use Rattle.xp_board.specs.Told.{Post}
use Rattle.step_maker.proofs.Coming.{came_post}
use Rattle.partial_state.specs.declared.stack.TableWork.{TableWork}
use Rattle.level_validate.specs.Tables.{IsStanding}
use Rattle.level_validate.proofs.Unwound.{filled_is, on_room}
use Rattle.level_validate.proofs.Filling.{validated_left, validated_live}
use Rattle.level_validate.proofs.Going.{going_may, going_standing, worked_goes}
use Rattle.level_validate.proofs.acquiring.validate.Goals as goal

-- the stack began with the one table
only : (t : TableWork) (empty pushed : List TableWork) → empty ≡ [] → pushed ≡ t ∷ empty → pushed ≡ t ∷ []
only t empty pushed none is = is ∙ ap (λ (us : List TableWork). t ∷ us) none

pub fill-requires-clause-only : goal.fill-requires-clause-only
fill-requires-clause-only g c = only c.args.table c.new-stack.result c.push.new.self c.new-stack.ensures c.push.ensures.pushed

-- ---- all entries are recorded
pub complete_outer-requires-clause-may : goal.complete_outer-requires-clause-may
complete_outer-requires-clause-may g c = going_may (worked_goes c.in-Ok.ensures.course.course c.requires.stands c.requires.fresh c.requires.may) c.requires.stands c.requires.may

pub complete_outer-requires-clause-stands : goal.complete_outer-requires-clause-stands
complete_outer-requires-clause-stands g c =
    let i = worked_goes c.in-Ok.ensures.course.course c.requires.stands c.requires.fresh c.requires.may in
    (c.args.owner, subst (λ us. IsStanding (g.P.Port.value c.fill.new.port) c.args.owner us) (filled_is c.args.table c.fill.new.stack c.in-Ok.ensures.filled i.outer) (going_standing i c.requires.stands))

pub complete_outer-requires-clause-ready : goal.complete_outer-requires-clause-ready
complete_outer-requires-clause-ready g c = (worked_goes c.in-Ok.ensures.course.course c.requires.stands c.requires.fresh c.requires.may).ready

pub returns-in-Ok-clause-course : goal.returns-in-Ok-clause-course
returns-in-Ok-clause-course g c =
    let i = worked_goes c.in-Ok.ensures.course.course c.requires.stands c.requires.fresh c.requires.may in
    validated_live (filled_is c.args.table c.fill.new.stack c.in-Ok.ensures.filled i.outer) c.complete_outer.ensures c.in-Ok.ensures.course

-- ---- a refusal or a pause
pub unwind-requires : goal.unwind-requires
unwind-requires g c =
    let i = worked_goes c.in-Err.ensures.course.course c.requires.stands c.requires.fresh c.requires.may in
    record {
      may = going_may i c.requires.stands c.requires.may;
      stands = going_standing i c.requires.stands;
      real = subst (λ (p : Post). c.args.owner < length p.machine.page_limit) (sym (came_post _ _ i.came)) c.requires.real;
      room = on_room _ _ _ _ _ c.requires.stands i.stands c.requires.room;
    }

pub returns-in-Err-clause-course : goal.returns-in-Err-clause-course
returns-in-Err-clause-course g c = validated_left c.is_paused.ensures c.unwind.ensures c.in-Err.ensures.course
