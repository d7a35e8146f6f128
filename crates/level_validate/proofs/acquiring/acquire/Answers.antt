use Rattle.std.proofs.Common.{◌∙◌, false, [], Ok, Err, ap, subst, refl, inl, rules, length, not, sym, ◌<◌, IsTrue}
use Rattle.partial_state.proofs.LevelFacts.{level_type-typed}
use Rattle.flush_words.proofs.Shared.{may_held}
use Rattle.step_maker.proofs.Piecing.{serves_came}
use Rattle.step_maker.proofs.Coming.{came_post}
use Rattle.step_maker.specs.Holds.{quiet}
use Rattle.xp_board.specs.Told.{Post, PortValue}
use Rattle.xp_words.specs.PageTypes.{is_none}
use Rattle.std.proofs.lemmas.Result.{err_from_is_err_and}
use Rattle.step_maker.specs.Answers.{missed}
use Rattle.frame_types.specs.Taking.{ShowsWait, TakesAs, WaitsWith}
use Rattle.frame_types.specs.declared.taking.Taken.TheVariants.{Counted, Waiting}
use Rattle.partial_state.specs.Levels.{level_type}
use Rattle.level_validate.specs.Acquiring.{is_due_stop}
use Rattle.level_validate.proofs.Acquired.{answer_leaves, counted_hand, given_hand, idle_aside, idle_other, leaves_as, same_leaves, comes_in, unwound_leaves, counted_by, finished_by, unfinished_by, unreferred_by, untyped_by, waiting_by, marked_acquired, plain_acquired, reference_serves, reference_stops, serves_as, stopped_serves, stopped_stops, stops_as, taken_serves, validated_misses, validated_serves, validated_stops, waited_serves, waited_stops, idle_inside, idle_lent, idle_looks, idle_may, waits_may, waits_post, waits_room}
use Rattle.level_validate.proofs.Going.{left_validated, live_validated}
use Rattle.level_validate.proofs.LeftWaiting.{waits_on}
use Rattle.table_entries.specs.Acquiring.{keeps_it}
use Rattle.level_validate.proofs.acquiring.acquire.Goals as goal

-- ---- its reference is not to be had

pub returns-in_err-frame : goal.returns-in_err-frame
returns-in_err-frame g c =
    let v = g.P.Port.value c.args.port.now in
    let b = g.P.Port.value c.get_ref.new.port in
    let e = c.in_err-frame.field-0.0 in
    let answer = err_from_is_err_and c.from_residual.result c.from_residual.ensures.1 in
    record {
      frame = rw (answer.1 ∙ ap Err answer.2) tt;
      serves = λ pages. serves_as _ _ _ _ _ pages _ _ (answer.1 ∙ ap Err answer.2)
          (plain_acquired _ _ _ _ _ pages (Err e) (reference_serves _ _ _ _ pages (is_due_stop e) _ (missed (g.P.Port.value c.args.port.now).post.machine e) c.in_err-frame.ensures.serves));
      stops = λ pages. stops_as _ _ _ _ _ pages _ _ (answer.1 ∙ ap Err answer.2)
          (reference_stops _ _ _ _ pages (is_due_stop e) _ _ c.in_err-frame.ensures.stops);
      kinds = search rules;
      hand = leaves_as v b c.args.f c.args.owner c.args.level _ e (answer.1 ∙ ap Err answer.2) (same_leaves v b c.args.f c.args.owner c.args.level e (ap quiet c.in_err-frame.ensures.hand));
      course = unreferred_by _ _ _ _ _ _ _ (answer.1 ∙ ap Err answer.2) c.in_err-frame.ensures.kinds c.in_err-frame.ensures.gets c.in_err-frame.ensures.plain c.in_err-frame.ensures.stops;
    }

-- ---- its type

pub take_type-requires : goal.take_type-requires
take_type-requires g c =
    let b = g.P.Port.value c.get_ref.new.port in
    let h = c.in_ok-frame.frame in
    let idle = c.requires.idle in
    let referred = c.in_ok-frame.ensures.hand in
    record {
      frame = idle_inside b h c.args.owner idle referred c.in_ok-frame.ensures.frame.1;
      may = idle_may b h c.args.owner idle referred c.requires.may;
      wanted = subst (λ k. IsTrue (not (is_none k))) (sym c.level_type.ensures) (level_type-typed c.args.level);
      lent = idle_lent b h c.args.owner idle referred;
      aside = λ none. inl (idle_aside b h c.args.owner idle referred);
      other = idle_other b h c.args.owner idle referred c.level_type.result;
      looked = idle_looks b h c.args.owner idle referred;
    }

-- ---- it was live

pub returns-in-Ok-Counted : goal.returns-in-Ok-Counted
returns-in-Ok-Counted g c =
    let x = g.P.Port.value c.take_type.new.port in
    let b = g.P.Port.value c.get_ref.new.port in
    let h = c.in_ok-frame.frame in
    let taken : TakesAs b x h c.args.owner c.level_type.result Counted = subst (λ t. TakesAs b x h c.args.owner c.level_type.result t) c.in-Ok-Counted.field-0-is c.in-Ok-Counted.ensures.hand in
    record {
      frame = c.in_ok-frame.ensures.frame;
      serves = λ pages. plain_acquired _ _ _ _ _ pages (Ok c.in_ok-frame.frame)
          (taken_serves _ _ _ _ pages false _ c.in_ok-frame.ensures.serves c.in_ok-frame.ensures.frame.0 c.level_type.ensures _ c.in-Ok-Counted.ensures.serves);
      stops = λ pages. tt;
      kinds = tt;
      hand = counted_hand b h c.args.owner c.requires.idle c.in_ok-frame.ensures.hand x (level_type c.args.level) (subst (λ k. TakesAs b x h c.args.owner k Counted) c.level_type.ensures taken);
      course = counted_by _ _ _ _ _ c.in_ok-frame.ensures.frame.0 c.in_ok-frame.ensures.gets c.in_ok-frame.ensures.plain _ c.level_type.ensures
          c.in-Ok-Counted.field-0 c.in-Ok-Counted.ensures.found c.in-Ok-Counted.ensures.plain c.in-Ok-Counted.ensures.waits c.in-Ok-Counted.field-0-is;
    }

-- ---- its type is not to be had

pub returns-in-Err : goal.returns-in-Err
returns-in-Err g c =
    let w = g.P.Port.value c.put_ref.new.port in
    record {
      frame = tt;
      serves = λ pages. plain_acquired _ _ _ _ _ pages (Err c.in-Err.stop)
          (stopped_serves _ _ _ _ pages (is_due_stop c.in-Err.stop) _ c.in_ok-frame.ensures.serves c.in_ok-frame.ensures.frame.0 c.level_type.ensures
          (g.P.Port.value c.take_type.new.port) w c.in-Err.stop c.in-Err.ensures.serves c.put_ref.ensures.serves);
      stops = λ pages. stopped_stops _ _ _ _ pages _ _ c.in_ok-frame.ensures.serves c.in_ok-frame.ensures.frame.0
          c.level_type.ensures (g.P.Port.value c.take_type.new.port) (g.P.Port.value c.put_ref.new.port) c.in-Err.stop c.in-Err.ensures.kinds c.in-Err.ensures.stops c.put_ref.ensures.serves;
      kinds = search rules;
      hand = same_leaves (g.P.Port.value c.args.port.now) w c.args.f c.args.owner c.args.level c.in-Err.stop
          (given_hand (g.P.Port.value c.get_ref.new.port) c.in_ok-frame.frame c.args.owner c.requires.idle c.in_ok-frame.ensures.hand (g.P.Port.value c.take_type.new.port) w c.in-Err.ensures.hand c.put_ref.ensures.hand);
      course = untyped_by _ _ _ _ _ c.in_ok-frame.ensures.frame.0 c.in_ok-frame.ensures.gets c.in_ok-frame.ensures.plain _ c.level_type.ensures
          (g.P.Port.value c.put_ref.new.port) c.in-Err.stop c.in-Err.ensures.kinds c.in-Err.ensures.found c.in-Err.ensures.plain c.in-Err.ensures.stops c.put_ref.ensures.puts c.put_ref.ensures.plain;
    }

pub put_ref-requires-clause-frame : goal.put_ref-requires-clause-frame
put_ref-requires-clause-frame g c =
    let b = g.P.Port.value c.get_ref.new.port in
    subst (λ (p : Post). c.in_ok-frame.frame < p.machine.frames) (sym (ap (λ (q : PortValue). q.post) c.in-Err.ensures.hand)) (idle_inside b c.in_ok-frame.frame c.args.owner c.requires.idle c.in_ok-frame.ensures.hand c.in_ok-frame.ensures.frame.1)

pub put_ref-requires-clause-may : goal.put_ref-requires-clause-may
put_ref-requires-clause-may g c =
    let b = g.P.Port.value c.get_ref.new.port in
    may_held b (g.P.Port.value c.take_type.new.port) b.holdings c.in-Err.ensures.hand refl refl (idle_may b c.in_ok-frame.frame c.args.owner c.requires.idle c.in_ok-frame.ensures.hand c.requires.may)

-- ---- it waits for a flush

pub leave_waiting-requires : goal.leave_waiting-requires
leave_waiting-requires g c =
    let b = g.P.Port.value c.get_ref.new.port in
    let x = g.P.Port.value c.take_type.new.port in
    let h = c.in_ok-frame.frame in
    let took = c.in-Ok-Waiting in
    let idle = c.requires.idle in
    let referred = c.in_ok-frame.ensures.hand in
    let waits : WaitsWith b x h c.args.owner c.level_type.result took.own took.stamp = subst (λ t. TakesAs b x h c.args.owner c.level_type.result t) took.field-0-is took.ensures.hand in
    let still = waits_post b h c.args.owner idle referred waits in
    record {
      frame = subst (λ (p : Post). h < p.machine.frames) (sym still) c.in_ok-frame.ensures.frame.1;
      may = waits_may b h c.args.owner idle referred waits c.requires.may;
      low = c.requires.low;
      high = c.requires.high;
      waits = (g.P.Port.value c.args.port.now, waits_on _ b x h _ _ _ _ _ c.level_type.ensures idle referred waits);
      real = subst (λ (p : Post). c.args.owner < length p.machine.page_limit) (sym still) c.requires.real;
      room = waits_room b h c.args.owner idle referred waits c.requires.room;
    }

pub returns-in-Ok-Waiting : goal.returns-in-Ok-Waiting
returns-in-Ok-Waiting g c =
    let v = g.P.Port.value c.args.port.now in
    let b = g.P.Port.value c.get_ref.new.port in
    let x = g.P.Port.value c.take_type.new.port in
    let h = c.in_ok-frame.frame in
    let e = c.in-Ok-Waiting.stop in
    let shows : ShowsWait b x h c.args.owner c.level_type.result (Waiting c.in-Ok-Waiting.own c.in-Ok-Waiting.stamp e) = subst (λ t. ShowsWait b x h c.args.owner c.level_type.result t) c.in-Ok-Waiting.field-0-is c.in-Ok-Waiting.ensures.waits in
    let w = g.P.Port.value c.leave_waiting.new.port in
    let kept = c.is_paused.result in
    let own = c.in-Ok-Waiting.own in
    let stamp = c.in-Ok-Waiting.stamp in
    let waits : TakesAs b x h c.args.owner c.level_type.result (Waiting own stamp c.in-Ok-Waiting.stop) = subst (λ t. TakesAs b x h c.args.owner c.level_type.result t) c.in-Ok-Waiting.field-0-is c.in-Ok-Waiting.ensures.hand in
    let took = c.in-Ok-Waiting in
    record {
      frame = tt;
      serves = λ pages. let before = taken_serves _ _ _ _ pages (is_due_stop e) _ c.in_ok-frame.ensures.serves c.in_ok-frame.ensures.frame.0 c.level_type.ensures _ c.in-Ok-Waiting.ensures.serves in
          marked_acquired _ _ _ _ _ pages _ _ (Err e) c.in_ok-frame.ensures.frame.0 c.is_paused.ensures
          (waited_serves _ _ _ _ pages (is_due_stop e) _ before c.in_ok-frame.ensures.frame.0 _ _ _ shows.0 c.leave_waiting.ensures.serves);
      stops = λ pages. waited_stops _ _ _ _ pages (is_due_stop e) _ c.in_ok-frame.ensures.serves c.in_ok-frame.ensures.frame.0 c.level_type.ensures _ _
          e shows.0 shows.1 c.leave_waiting.ensures.came;
      kinds = search rules;
      hand = answer_leaves v (g.P.Port.value c.leave_waiting.new.port) c.args.f c.args.owner c.args.level h own c.is_paused.result c.in-Ok-Waiting.stop c.in_ok-frame.ensures.frame.0 c.is_paused.ensures
          (c.leave_waiting.ensures.hand v (waits_on _ _ _ _ _ _ _ _ _ c.level_type.ensures c.requires.idle c.in_ok-frame.ensures.hand waits));
      course = waiting_by _ _ _ _ _ c.in_ok-frame.ensures.frame.0 c.in_ok-frame.ensures.gets c.in_ok-frame.ensures.plain _ c.level_type.ensures
          took.field-0 took.ensures.found took.ensures.plain took.ensures.waits took.own took.stamp took.stop took.field-0-is (g.P.Port.value c.leave_waiting.new.port) c.is_paused.result c.is_paused.ensures c.leave_waiting.ensures.course;
    }

-- ---- it is in work

pub validate-requires : goal.validate-requires
validate-requires g c =
    let took = c.in-Ok-InWork in
    let in_work = comes_in (g.P.Port.value c.get_ref.new.port) c.requires.idle c.requires.may c.in_ok-frame.ensures.hand c.level_type.ensures c.requires.low c.requires.high c.in_ok-frame.ensures.frame.1 took.field-0-is took.ensures.hand took.ensures.found in
    record {
      may = in_work.may;
      real = subst (λ (p : Post). c.args.owner < length p.machine.page_limit) (sym (came_post _ _ (serves_came _ _ _ _ took.ensures.serves) ∙ came_post _ _ (serves_came _ _ _ _ c.in_ok-frame.ensures.serves))) c.requires.real;
      stands = (g.P.Port.value c.args.port.now, in_work.carries);
      fresh = in_work.fresh;
      room = search rules;
    }

pub returns-in_ok-validate-in-Ok-InWork : goal.returns-in_ok-validate-in-Ok-InWork
returns-in_ok-validate-in-Ok-InWork g c =
    let took = c.in-Ok-InWork in
    let same = c.in_ok-frame.ensures.frame.0 in
    let in_work = comes_in (g.P.Port.value c.get_ref.new.port) c.requires.idle c.requires.may c.in_ok-frame.ensures.hand c.level_type.ensures c.requires.low c.requires.high c.in_ok-frame.ensures.frame.1 took.field-0-is took.ensures.hand took.ensures.found in
    let live = live_validated in_work c.in_ok-validate-in-Ok-InWork.ensures.course.course in
    record {
      frame = c.in_ok-frame.ensures.frame;
      serves = λ pages. let before = taken_serves _ _ _ _ pages false _ c.in_ok-frame.ensures.serves same c.level_type.ensures _ took.ensures.serves in
          marked_acquired _ _ _ _ _ pages _ false (Ok c.in_ok-frame.frame) same refl (validated_serves _ _ _ _ pages false _ before same _ _ _ false [] live.serves);
      stops = λ pages. tt;
      kinds = tt;
      hand = live.hand;
      course = finished_by _ _ _ _ _ same c.in_ok-frame.ensures.gets c.in_ok-frame.ensures.plain _ c.level_type.ensures
          took.field-0 took.ensures.found took.ensures.plain took.ensures.waits took.field-0-is (g.P.Port.value c.validate.new.port) c.in_ok-validate-in-Ok-InWork.ensures.course;
    }

pub returns-in_err-validate-in-Ok-InWork : goal.returns-in_err-validate-in-Ok-InWork
returns-in_err-validate-in-Ok-InWork g c =
    let v = g.P.Port.value c.args.port.now in
    let w = g.P.Port.value c.validate.new.port in
    let took = c.in-Ok-InWork in
    let same = c.in_ok-frame.ensures.frame.0 in
    let e = c.in_err-validate-in-Ok-InWork.field-0.0 in
    let result = c.from_residual-in_err-validate-in-Ok-InWork.result in
    let answer = err_from_is_err_and result c.from_residual-in_err-validate-in-Ok-InWork.ensures.1 in
    let is = answer.1 ∙ ap Err answer.2 in
    let in_work = comes_in (g.P.Port.value c.get_ref.new.port) c.requires.idle c.requires.may c.in_ok-frame.ensures.hand c.level_type.ensures c.requires.low c.requires.high c.in_ok-frame.ensures.frame.1 took.field-0-is took.ensures.hand took.ensures.found in
    let left = left_validated in_work e c.in_err-validate-in-Ok-InWork.ensures.course.course in
    record {
      frame = rw is tt;
      serves = λ pages. let before = taken_serves _ _ _ _ pages (is_due_stop e) _ c.in_ok-frame.ensures.serves same c.level_type.ensures _ took.ensures.serves in
          serves_as _ _ _ _ _ pages _ _ is (marked_acquired _ _ _ _ _ pages _ (keeps_it e) (Err e) same refl (validated_misses _ _ _ _ pages (is_due_stop e) _ before same _ _ _ (keeps_it e) _ left.serves));
      stops = λ pages. let before = taken_serves _ _ _ _ pages (is_due_stop e) _ c.in_ok-frame.ensures.serves same c.level_type.ensures _ took.ensures.serves in
          stops_as _ _ _ _ _ pages _ _ is (validated_stops _ _ _ _ pages (is_due_stop e) _ before same _ _ _ _ (λ due. due) in_work.carries left.stops);
      kinds = search rules;
      hand = leaves_as v w c.args.f c.args.owner c.args.level result e is (unwound_leaves v w c.args.f c.args.owner c.args.level c.in_ok-frame.frame took.progress took.own e same left.hand);
      course = unfinished_by v c.args.f c.args.owner c.args.level (g.P.Port.value c.get_ref.new.port) same c.in_ok-frame.ensures.gets c.in_ok-frame.ensures.plain (g.P.Port.value c.take_type.new.port) c.level_type.ensures
          took.field-0 took.ensures.found took.ensures.plain took.ensures.waits took.field-0-is w result e is c.in_err-validate-in-Ok-InWork.ensures.course;
    }
