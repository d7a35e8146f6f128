use Rattle.std.proofs.Common.{Ok, Err, refl, ◌∷◌, false, sym, ap, ◌∙◌, subst, rules}
use Rattle.std.proofs.lemmas.Result.{err_from_is_err_and}
use Rattle.xp_words.specs.Entries.{below}
use Rattle.xp_words.specs.declared.kind.PageType.{PageType}
use Rattle.frame_types.specs.Taking.{IsOfOther}
use Rattle.table_entries.specs.Tops.{WorksNext}
use Rattle.partial_state.specs.Weights.{weight}
use Rattle.level_validate.specs.Tables.{Carries}
use Rattle.level_validate.proofs.Entered.{fresh_ready, next_lowers, next_of, opened_next, recorded_next, stopped_next, unsettled_next}
use Rattle.level_validate.proofs.Standing.{top_inside, standing_above, standing_held, standing_known, standing_looked, standing_next, stack_top}
use Rattle.level_validate.proofs.Opening.{wait_stops}
use Rattle.level_validate.proofs.LookedAgain.{next_on_top, opened_may, opened_standing, opened_table}
use Rattle.level_validate.proofs.Pushing.{pushed}
use Rattle.level_validate.proofs.entering.enter.Goals as goal

pub take_entry-requires : goal.take_entry-requires
take_entry-requires g c =
    let u = g.P.Port.value c.args.port.now in
    let s0 = subst (λ xs. Carries c.requires.stands.0 u c.args.owner xs) c.in-Some.ensures.some c.requires.stands.1 in
    record {
      frame = top_inside s0;
      index = search rules;
      may = search rules;
      works = subst (λ (k : PageType). WorksNext u.post.machine c.in-Some.top.frame k c.in-Some.top.done u.holdings) (sym c.level_type.ensures) (standing_next s0 c.requires.ready);
      known = standing_known s0;
      held = standing_held s0;
      above = λ f. subst (λ (k : PageType). IsOfOther f (below k) u.holdings) (sym c.level_type.ensures) (standing_above s0 f);
      looked = standing_looked s0;
    }

-- ---- that stops
pub returns-in_err-take_entry-clause-course : goal.returns-in_err-take_entry-clause-course
returns-in_err-take_entry-clause-course g c =
    let answer = err_from_is_err_and c.from_residual.result c.from_residual.ensures.1 in
    stopped_next _ _ c.in-Some.ensures.some c.requires.left _ _ _ (answer.1 ∙ ap Err answer.2) (next_of {a = Err c.in_err-take_entry.field-0.0} c.level_type.ensures (stack_top c.in-Some.ensures.some c.requires.stands) refl c.in_err-take_entry.ensures)

-- ---- it is recorded
pub returns-in-Recorded-clause-course : goal.returns-in-Recorded-clause-course
returns-in-Recorded-clause-course g c =
    recorded_next _ _ c.in-Some.ensures.some c.requires.left _ _ c.advance.ensures.advanced (next_of c.level_type.ensures (stack_top c.in-Some.ensures.some c.requires.stands) (ap Ok c.in-Recorded.is) c.in_ok-take_entry.ensures)

-- ---- it names a table that is to be validated first
pub push-requires-clause-table : goal.push-requires-clause-table
push-requires-clause-table g c =
    let said = next_of c.level_type.ensures (stack_top c.in-Some.ensures.some c.requires.stands) (ap Ok c.in-Opened.is) c.in_ok-take_entry.ensures in
    opened_table (next_on_top c.in-Some.ensures.some c.requires.left said c.requires.ready refl refl c.requires.stands) c.requires.stands

pub take_on-requires : goal.take_on-requires
take_on-requires g c =
    let said = next_of c.level_type.ensures (stack_top c.in-Some.ensures.some c.requires.stands) (ap Ok c.in-Opened.is) c.in_ok-take_entry.ensures in
    let on = next_on_top c.in-Some.ensures.some c.requires.left said c.requires.ready c.advance-in-Opened.ensures.advanced c.push.ensures.pushed c.requires.stands in
    record {
      may = opened_may on c.requires.stands c.requires.may;
      top = on.top;
      stands = opened_standing on c.requires.stands;
      fresh = λ zero. fresh_ready _ _ _ _ _ _ _ _ _ said.hand zero;
    }

pub returns-in-Opened-clause-less : goal.returns-in-Opened-clause-less
returns-in-Opened-clause-less g c =
    next_lowers _ (weight c.take_on.new.stack) _ _ _ _ _ c.push.ensures.stack c.in-Some.ensures.some
    (c.push.ensures.pushed ∙ ap (λ ys. pushed c.in-Some.top c.in-Opened.frame c.in-Opened.progress c.in-Opened.own false ∷ ys) c.advance-in-Opened.ensures.advanced) c.requires.left c.take_on.ensures.less

pub returns-in-Opened-clause-course : goal.returns-in-Opened-clause-course
returns-in-Opened-clause-course g c =
    opened_next _ _ c.in-Some.ensures.some c.requires.left _ _ _ _ _ _ _ _ _ c.advance-in-Opened.ensures.advanced c.push.ensures.pushed
    (next_of c.level_type.ensures (stack_top c.in-Some.ensures.some c.requires.stands) (ap Ok c.in-Opened.is) c.in_ok-take_entry.ensures) c.take_on.ensures.course

-- ---- it is recorded, and may be unsettled
pub returns-in-Unsettled-clause-kinds : goal.returns-in-Unsettled-clause-kinds
returns-in-Unsettled-clause-kinds g c = wait_stops _ ((next_of {t = c.in-Some.top} c.level_type.ensures (stack_top c.in-Some.ensures.some c.requires.stands) (ap Ok c.in-Unsettled.is) c.in_ok-take_entry.ensures).shows 0).1

pub returns-in-Unsettled-clause-course : goal.returns-in-Unsettled-clause-course
returns-in-Unsettled-clause-course g c =
    unsettled_next _ _ c.in-Some.ensures.some c.requires.left _ _ _ c.advance-in-Unsettled.ensures.advanced
    (next_of c.level_type.ensures (stack_top c.in-Some.ensures.some c.requires.stands) (ap Ok c.in-Unsettled.is) c.in_ok-take_entry.ensures)
