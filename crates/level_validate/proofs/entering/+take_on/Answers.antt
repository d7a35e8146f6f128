use Rattle.std.proofs.Common.{◌+◌, ◌-◌, Ok, Err, sym, ap, ◌∙◌, subst, arith, refl, rules}
use Rattle.std.proofs.lemmas.Result.{err_from_is_err_and}
use Rattle.xp_words.specs.Entries.{below}
use Rattle.xp_words.specs.declared.kind.PageType.{PageType}
use Rattle.frame_types.specs.Taking.{IsOfOther}
use Rattle.table_entries.specs.Tops.{WorksAtTop}
use Rattle.partial_state.specs.Levels.{level_type}
use Rattle.partial_state.specs.Weights.{weight}
use Rattle.level_validate.specs.Tables.{Carries}
use Rattle.level_validate.proofs.Entered.{back_one, again_lowers, fresh_ready}
use Rattle.level_validate.proofs.Standing.{top_inside, standing_above, standing_held, standing_looked, stack_top}
use Rattle.level_validate.proofs.LookedAgain.{again_of, again_on_top, opened_may, opened_standing, opened_table, top_low, fresh_on, opened_on, settled_on, shared_left, stopped_on, taken_on, waiting_on, took_gives, took_inside, waited_inside, waited_kinds, waited_waits}
use Rattle.level_validate.proofs.entering.+take_on.Goals as goal

-- ---- none of its entries is recorded
pub returns-then-top-eq0-clause-course : goal.returns-then-top-eq0-clause-course
returns-then-top-eq0-clause-course g n c = fresh_on _ _ c.requires.top c.if-top-eq0.true

-- ---- its last one is looked at
pub resume_entry-requires : goal.resume_entry-requires
resume_entry-requires g n c =
    let a = c.requires.stands in
    let u = g.P.Port.value c.args.port.now in
    let one = sym (back_one _ c.if-top-eq0.false) in
    let s = subst (λ xs. Carries a.0 u c.args.owner xs) c.requires.top a.1 in
    record {
      frame = top_inside s;
      index = search rules;
      may = c.requires.may;
      works = subst (λ (k : PageType). WorksAtTop c.args.top.frame k (c.args.top.done - 1 + 1) u.holdings) (sym c.level_type.ensures)
          (subst (λ n. WorksAtTop c.args.top.frame (level_type c.args.top.level) n u.holdings) one (stack_top c.requires.top c.requires.stands));
      held = standing_held s;
      above = λ f. subst (λ (k : PageType). IsOfOther f (below k) u.holdings) (sym c.level_type.ensures) (standing_above s f);
      looked = standing_looked s;
    }

-- ---- that stops
pub returns-in_err-resume_entry-clause-course : goal.returns-in_err-resume_entry-clause-course
returns-in_err-resume_entry-clause-course g n c =
    let answer = err_from_is_err_and c.from_residual.result c.from_residual.ensures.1 in
    stopped_on _ _ c.requires.top c.if-top-eq0.false _ _ _ (answer.1 ∙ ap Err answer.2) (again_of {a = Err c.in_err-resume_entry.field-0.0} c.level_type.ensures (stack_top c.requires.top c.requires.stands) refl c.in_err-resume_entry.ensures)

-- ---- it is settled
pub returns-in-Settled-clause-course : goal.returns-in-Settled-clause-course
returns-in-Settled-clause-course g n c =
    settled_on _ _ c.requires.top c.if-top-eq0.false _ (again_of c.level_type.ensures (stack_top c.requires.top c.requires.stands) (ap Ok c.in-Settled.is) c.in_ok-resume_entry.ensures)

-- ---- its frame was live
pub give_back-requires : goal.give_back-requires
give_back-requires g n c =
    let said = again_of c.level_type.ensures (stack_top c.requires.top c.requires.stands) (ap Ok c.in-Taken.is) c.in_ok-resume_entry.ensures in
    record {
      frame = took_inside said;
      may = search rules;
      gives = took_gives said c.requires.top c.if-top-eq0.false c.requires.stands;
    }

pub returns-in-Taken-clause-course : goal.returns-in-Taken-clause-course
returns-in-Taken-clause-course g n c =
    taken_on _ _ c.requires.top c.if-top-eq0.false _ _ _ (again_of c.level_type.ensures (stack_top c.requires.top c.requires.stands) (ap Ok c.in-Taken.is) c.in_ok-resume_entry.ensures) c.give_back.ensures

-- ---- it names a table that was left unfinished
pub push-requires-clause-table : goal.push-requires-clause-table
push-requires-clause-table g n c =
    let said = again_of c.level_type.ensures (stack_top c.requires.top c.requires.stands) (ap Ok c.in-Opened.is) c.in_ok-resume_entry.ensures in
    opened_table (again_on_top c.requires.top c.if-top-eq0.false said refl c.requires.stands) c.requires.stands

pub take_on-requires : goal.take_on-requires
take_on-requires g n c κs low =
    let said = again_of c.level_type.ensures (stack_top c.requires.top c.requires.stands) (ap Ok c.in-Opened.is) c.in_ok-resume_entry.ensures in
    let a = c.requires.stands in
    let on = again_on_top c.requires.top c.if-top-eq0.false said c.push.ensures.pushed a in
    (omega (arith, c.decreases, (top_low c.requires.top a)), (low, (opened_may on a c.requires.may, (on.top, (opened_standing on a, λ zero. fresh_ready _ _ _ _ _ _ _ _ _ said.hand zero)))))

pub returns-in-Opened-clause-less : goal.returns-in-Opened-clause-less
returns-in-Opened-clause-less g n c = again_lowers _ (weight c.take_on.new.stack) _ _ _ _ _ c.push.ensures.stack c.requires.top c.push.ensures.pushed c.take_on.ensures.less

pub returns-in-Opened-clause-course : goal.returns-in-Opened-clause-course
returns-in-Opened-clause-course g n c =
    opened_on _ _ c.requires.top c.if-top-eq0.false _ _ _ _ _ _ _ c.push.ensures.pushed
    (again_of c.level_type.ensures (stack_top c.requires.top c.requires.stands) (ap Ok c.in-Opened.is) c.in_ok-resume_entry.ensures) c.take_on.ensures.course

-- ---- it waits for a flush
pub leave_shared-requires : goal.leave_shared-requires
leave_shared-requires g n c =
    let said = again_of c.level_type.ensures (stack_top c.requires.top c.requires.stands) (ap Ok c.in-Waiting.is) c.in_ok-resume_entry.ensures in
    record {
      frame = waited_inside said;
      may = search rules;
      waits = waited_waits said c.requires.top c.requires.stands c.level_type-in-Waiting.ensures;
    }

pub returns-in-Waiting-clause-kinds : goal.returns-in-Waiting-clause-kinds
returns-in-Waiting-clause-kinds g n c =
    waited_kinds (again_of {t = c.args.top} c.level_type.ensures (stack_top c.requires.top c.requires.stands) (ap Ok c.in-Waiting.is) c.in_ok-resume_entry.ensures)

pub returns-in-Waiting-clause-course : goal.returns-in-Waiting-clause-course
returns-in-Waiting-clause-course g n c =
    let left = c.leave_shared.ensures in
    waiting_on _ _ c.requires.top c.if-top-eq0.false _ _ _ _ _ (again_of c.level_type.ensures (stack_top c.requires.top c.requires.stands) (ap Ok c.in-Waiting.is) c.in_ok-resume_entry.ensures)
    (shared_left c.level_type-in-Waiting.ensures _ left.visits left.serves left.hand)
