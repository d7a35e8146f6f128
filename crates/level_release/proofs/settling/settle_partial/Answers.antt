use Rattle.std.proofs.Common.{◌<◌, ℕ, [], None, Err, Ok, false, refl, sym, ap, ◌∙◌, subst}
use Rattle.xp_words.specs.KindWords.{kind_write}
use Rattle.xp_words.specs.declared.kind.KindWord.{KindWord}
use Rattle.xp_words.specs.declared.place.Place.TheVariants.{Kind}
use Rattle.xp_board.specs.Hands.{typed_to}
use Rattle.xp_board.specs.Told.{PortValue}
use Rattle.xp_board.specs.declared.step.Act.TheVariants.{Store}
use Rattle.xp_board.specs.declared.step.StepKind.TheVariants as kinds
use Rattle.step_maker.specs.Holds.{Holds}
use Rattle.step_maker.specs.Moves.{Moves}
use Rattle.step_maker.proofs.Coming.{moves_came, moved_inside}
use Rattle.step_maker.specs.Answers.{missed}
use Rattle.step_maker.proofs.Piecing.{stops_before}
use Rattle.kind_words.specs.Kinds.{dead_kind, left}
use Rattle.flush_words.proofs.Shared.{may_held}
use Rattle.kind_words.proofs.KindFacts.{read_is}
use Rattle.level_release.specs.Asking.{is_due_answer, is_due_stop}
use Rattle.level_release.proofs.Asking.{settling}
use Rattle.xp_preempt.proofs.Consulting.{gated_as, gated_none}
use Rattle.level_release.proofs.Exchanged.{change_came, dead_serves, lost_serves, lost_stops, resumed_piece}
use Rattle.level_release.proofs.Named.{again_serves}
use Rattle.level_release.proofs.ServingRun.{emptied_serves}
use Rattle.level_release.proofs.Resumed.{at_a, dead_gives, dead_may, dead_released, dead_work, item_fields, lost_named, lost_typed, recorded_most, recorded_none, recorded_some, resumed_empties, resumed_may, resumed_released, resumed_room, working}
use Rattle.level_release.proofs.SettlingSteps.{dead_course, dead_steps, emptied_course, lost_course, lost_undue}
use Rattle.level_release.proofs.Taken.{settled_rests, took_held, took_settled}
use Rattle.level_release.proofs.settling.settle_partial.Goals as goal

pub resume_work-requires-clause-is : goal.resume_work-requires-clause-is
resume_work-requires-clause-is g c = (read_is c.args.found c.args.kind c.requires.read).0

-- ---- the exchange was lost

pub lost-stop-requires : goal.lost-stop-requires
lost-stop-requires g c = moved_inside c.in-Err.ensures.moves c.requires.frame

pub put_old-requires : goal.put_old-requires
put_old-requires g c =
    let v = g.P.Port.value c.args.port.now in
    let d = g.P.Port.value c.resume_work.new.port in
    let same = lost_typed c.requires.took.2 c.requires.read c.requires.partial d c.in-Err.other c.in-Err.ensures.hand in
    record {
      frame = moved_inside c.in-Err.ensures.moves c.requires.frame;
      may = may_held v d v.holdings same refl refl c.requires.may;
      empty = ap (λ (q : PortValue). q.holdings.old0) same ∙ c.requires.room;
      held = subst (λ (q : PortValue). 0 < typed_to c.args.frame q.holdings.typed) (sym same) (took_held c.requires.took.2);
    }

-- ---- a table of which something is recorded

pub overflow_sub-table : goal.overflow_sub-table
overflow_sub-table g c = recorded_most c.args.found c.requires.read c.requires.partial

pub look_refs-requires : goal.look_refs-requires
look_refs-requires g c = moved_inside c.in-Ok.ensures.moves c.requires.frame

pub level_of-requires : goal.level_of-requires
level_of-requires g c = (recorded_some c.args.kind (sym c.has_recorded.ensures ∙ c.if-has_recorded.true)).0

pub empty-requires : goal.empty-requires
empty-requires g c =
    let d = g.P.Port.value c.resume_work.new.port in
    let back = c.in-Ok.ensures in
    let look = c.look_refs.ensures.hand in
    record {
      may = may_held d (g.P.Port.value c.look_refs.new.port) d.holdings look refl refl (resumed_may c.requires.took.2 c.requires.read c.requires.partial back.moves back.hand c.requires.may);
      stands = (
        record (g.P.Port.value c.args.port.now).holdings { typed = [] },
        resumed_empties c.requires.took.2 c.requires.read c.requires.partial c.in-Ok.ensures.moves c.in-Ok.ensures.hand c.look_refs.ensures.moves c.look_refs.ensures.hand
            c.level_of.result c.level_of.ensures.kind c.level_of.ensures.low c.level_of.ensures.high (recorded_some c.args.kind (sym c.has_recorded.ensures ∙ c.if-has_recorded.true)).1 c.requires.frame,
      );
      some = λ e. absurd cc;
      room = ap (λ (q : PortValue). q.holdings.old0) look ∙ resumed_room c.requires.took.2 c.requires.read c.requires.partial back.moves back.hand c.requires.room;
    }

-- ---- any other frame

pub leave-requires : goal.leave-requires
leave-requires g c =
    let d = g.P.Port.value c.resume_work.new.port in
    let t = c.requires.took.2 in
    let back = c.in-Ok.ensures in
    let clock = c.look_clock-clock.ensures in
    record {
      frame = moved_inside clock.moves (moved_inside back.moves c.requires.frame);
      may = may_held d (g.P.Port.value c.look_clock-clock.new.port) d.holdings clock.hand refl refl (resumed_may t c.requires.read c.requires.partial back.moves back.hand c.requires.may);
      leaves = rw c.dead_kind.ensures (dead_may t c.requires.read c.requires.partial back.moves back.hand clock.moves clock.hand
          (recorded_none c.args.found c.requires.read c.requires.partial (sym c.has_recorded.ensures ∙ c.if-has_recorded.false)));
    }

pub put_ref-requires-clause-frame : goal.put_ref-requires-clause-frame
put_ref-requires-clause-frame g c = moved_inside c.leave.ensures.moves (moved_inside c.look_clock-clock.ensures.moves (moved_inside c.in-Ok.ensures.moves c.requires.frame))

pub put_ref-requires-clause-gives : goal.put_ref-requires-clause-gives
put_ref-requires-clause-gives g c =
    let a = g.P.Port.value c.look_clock-clock.new.port in
    let e = g.P.Port.value c.leave.new.port in
    dead_gives c.requires.took.2 c.requires.read c.requires.partial c.in-Ok.ensures.moves c.in-Ok.ensures.hand c.look_clock-clock.ensures.moves c.look_clock-clock.ensures.hand e
    (subst (λ k. Holds a e (left a c.args.frame k)) c.dead_kind.ensures c.leave.ensures.hand)

pub put_ref-requires-clause-may : goal.put_ref-requires-clause-may
put_ref-requires-clause-may g c =
    let a = g.P.Port.value c.look_clock-clock.new.port in
    let e = g.P.Port.value c.leave.new.port in
    dead_work c.requires.took.2 c.requires.read c.requires.partial c.in-Ok.ensures.moves c.in-Ok.ensures.hand c.look_clock-clock.ensures.moves c.look_clock-clock.ensures.hand e
    (subst (λ k. Holds a e (left a c.args.frame k)) c.dead_kind.ensures c.leave.ensures.hand) c.requires.may

-- ---- the ways out

pub returns-in-Err : goal.returns-in-Err
returns-in-Err g c u which t =
    let d = g.P.Port.value c.resume_work.new.port in
    let w = g.P.Port.value c.put_old.new.port in
    let e = c.lost-stop.result in
    let a = c.in-Err.ensures in
    let hand = took_settled w t (Err e) (lost_named t c.requires.read c.requires.partial d w c.in-Err.other e a.hand c.put_old.ensures.hand) in
    record {
      rests = settled_rests which (Err e) t.rests hand;
      serves = λ owner pages. again_serves t owner pages (is_due_stop e) (missed u.post.machine e) (lost_serves t owner pages (is_due_stop e) c.requires.read c.requires.partial a.moves a.lost c.lost-stop.ensures)
          (change_came t owner pages (is_due_stop e) c.requires.read c.requires.partial a.moves) c.put_old.ensures.moves;
      stops = λ owner pages. stops_before u d w (settling owner pages (is_due_stop e)) e (lost_stops t owner pages (is_due_stop e) c.requires.read c.requires.partial a.moves a.lost c.lost-stop.ensures)
          (moves_came d w _ _ _ _ _ c.put_old.ensures.moves);
      kinds = rw c.lost-stop.ensures tt;
      hand = hand;
      course = gated_none (lost_undue _ _ _ c.lost-stop.ensures) (lost_course t c.requires.read c.requires.partial a.moves c.args.left.now w a.lost c.lost-stop.ensures c.put_old.ensures.moves);
    }

pub returns-in-Ok : goal.returns-in-Ok
returns-in-Ok g c u which t =
    let w = g.P.Port.value c.empty.new.port in
    let a = c.in-Ok.ensures in
    let look = c.look_refs.ensures in
    let level = c.level_of.ensures in
    let answer = c.empty.result in
    let table = sym c.has_recorded.ensures ∙ c.if-has_recorded.true in
    let hand = took_settled w t answer (resumed_released t c.requires.read c.requires.partial a.moves a.hand look.moves look.hand c.level_of.result level.kind level.low level.high (recorded_some c.args.kind table).1
    c.requires.frame w answer c.empty.ensures.came c.empty.ensures.hand) in
    let run = λ (owner pages : ℕ). emptied_serves (resumed_piece t owner pages (is_due_answer answer) c.requires.read c.requires.partial a.moves refl refl look.moves) refl c.empty.ensures.course.course.0 in
    record {
      rests = settled_rests which answer t.rests hand;
      serves = λ owner pages. (run owner pages).serves;
      stops = λ owner pages. (run owner pages).stops;
      kinds = c.empty.ensures.kinds;
      hand = hand;
      course = gated_as refl (λ answers emptied. emptied_course t c.requires.read c.requires.partial a.moves refl c.args.left.now c.empty.new.left w c.level_of.result answers answer table level.kind level.high look.moves emptied)
          c.empty.ensures.course;
    }

pub returns-in-Ok-2 : goal.returns-in-Ok-2
returns-in-Ok-2 g c u which t =
    let a = g.P.Port.value c.look_clock-clock.new.port in
    let e = g.P.Port.value c.leave.new.port in
    let w = g.P.Port.value c.put_ref.new.port in
    let k = c.args.kind in
    let clock = c.look_clock-clock.ensures in
    let back = c.in-Ok.ensures in
    let none = sym c.has_recorded.ensures ∙ c.if-has_recorded.false in
    let may = dead_may t c.requires.read c.requires.partial back.moves back.hand clock.moves clock.hand (recorded_none c.args.found c.requires.read c.requires.partial none) in
    let store = subst (λ y. Moves a e (Kind c.args.frame) (Store (kind_write y)) kinds.Kind None c.leave.result) c.dead_kind.ensures c.leave.ensures.moves in
    let left_dead = subst (λ y. Holds a e (left a c.args.frame y)) c.dead_kind.ensures c.leave.ensures.hand in
    let hand = took_settled w t (Ok tt) (dead_released t c.requires.read c.requires.partial back.moves back.hand clock.moves clock.hand e left_dead w c.put_ref.ensures.hand) in
    record {
      rests = settled_rests which (Ok tt) t.rests hand;
      serves = λ owner pages. dead_serves t owner pages false c.requires.read c.requires.partial back.moves refl w (dead_kind k.kind k.unflushed c.look_clock-clock.result) clock.moves
          (at_a t c.requires.read c.requires.partial back.moves back.hand clock.moves clock.hand) (working t c.requires.read c.requires.partial) (ap (λ (y : KindWord). y.kind) (item_fields t c.requires.read c.requires.partial)) may.is store c.put_ref.ensures.serves;
      stops = λ owner pages. tt;
      kinds = tt;
      hand = hand;
      course = gated_none refl (dead_course t c.requires.read c.requires.partial back.moves refl c.args.left.now w none (dead_steps w k.kind k.unflushed clock.moves store c.put_ref.ensures.puts));
    }
