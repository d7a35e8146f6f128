use Rattle.std.proofs.Common.{◌<◌, ◌+◌, true, false, sym, subst, rules}
use Rattle.xp_words.specs.declared.kind.KindWord.{KindWord}
use Rattle.xp_board.specs.Told.{Post}
use Rattle.step_maker.proofs.Coming.{came_post, came_trans, moves_came}
use Rattle.step_maker.specs.Asked.{of}
use Rattle.kept_marks.specs.Marks.{LeavesKept}
use Rattle.kind_words.specs.Kinds.{partial_kind}
use Rattle.frame_types.specs.Leaving.{ServesType}
use Rattle.level_validate.proofs.LeftWaiting.{gives_left, kept_hand, lent_hand, mark_known, mark_left, mark_looking, mark_may, named_hand, named_left, stays_held, stays_may, stays_room, unkept_is, waits_as}
use Rattle.level_validate.specs.Serving.{ServesWaiting}
use Rattle.level_validate.proofs.Standing.{level_type-unpaged}
use Rattle.level_validate.proofs.Serving.{marked_kept, marked_none, old_serves, type_left}
use Rattle.level_validate.proofs.Leaving.{waiting_kept, waiting_lent, waiting_named}
use Rattle.level_validate.proofs.acquiring.leave_waiting.Goals as goal

-- ---- the type count is another holder's

pub leave_shared-requires-clause-waits : goal.leave_shared-requires-clause-waits
leave_shared-requires-clause-waits g c =
    let b = c.requires.waits in (b.1.lent, _, waits_as b.1 c.level_type-kind.ensures c.if-not-own.true)

pub returns-then-not-own : goal.returns-then-not-own
unfolding ServesWaiting
returns-then-not-own g c =
    let w = g.P.Port.value c.leave_shared.new.port in
    let x = g.P.Port.value c.args.port.now in
    let f = c.args.frame in
    let k = c.level_type-kind.result in
    let is = unkept_is c.requires.waits.1 c.level_type-kind.ensures c.if-not-own.true in
    record {
      came = search rules;
      serves = λ u r ds before asks locks. marked_none u _ r _ _ _ ds (type_left u _ _ r ds _ _ _ before asks (subst (λ k. ServesType x w f k) c.level_type-kind.ensures c.leave_shared.ensures.serves));
      hand = λ v a. lent_hand v w c.args.frame c.args.owner c.args.own c.args.kept c.if-not-own.true
          (gives_left a c.level_type-kind.ensures c.if-not-own.true w c.leave_shared.ensures.hand);
      course = waiting_lent _ _ _ _ _ _ _ _ c.level_type-kind.ensures
          c.if-not-own.true c.leave_shared.ensures.visits;
    }

-- ---- paused: it goes into the mark

pub leave_kept-requires : goal.leave_kept-requires
leave_kept-requires g c =
    record {
      frame = search rules;
      may = search rules;
      leaves = rw c.waiting_kind.ensures (mark_may c.requires.waits.1 c.level_type-kind.ensures c.if-not-own.false);
      partial = search rules;
      kept = search rules;
      page = rw c.waiting_kind.ensures (rw c.level_type-kind.ensures (level_type-unpaged _ c.requires.low));
      known = mark_known c.requires.waits.1 c.level_type-kind.ensures c.if-not-own.false;
      real = search rules;
      looked = mark_looking c.requires.waits.1 c.level_type-kind.ensures c.if-not-own.false;
      room = search rules;
    }

pub returns-then-kept : goal.returns-then-kept
unfolding ServesWaiting
returns-then-kept g c =
    let x = g.P.Port.value c.args.port.now in
    let d = g.P.Port.value c.leave_kept.new.port in
    let f = c.args.frame in
    let may = mark_may c.requires.waits.1 c.level_type-kind.ensures c.if-not-own.false in
    record {
      came = search rules;
      serves = λ u r ds before asks locks. marked_kept u _ r _ _ _ ds c.if-kept.true (c.leave_kept.ensures.serves u r ds before (of c.args.owner _ asks) locks);
      hand = λ v a. kept_hand v d c.args.frame c.args.owner c.args.own c.args.kept c.if-not-own.false c.if-kept.true
          (mark_left a c.level_type-kind.ensures c.if-not-own.false d
          (subst (λ (k : KindWord). LeavesKept x d c.args.frame k c.args.owner) c.waiting_kind.ensures c.leave_kept.ensures.hand));
      course = waiting_kept _ _ _ _ _ _ _ _ c.level_type-kind.ensures
          c.if-not-own.false c.if-kept.true c.waiting_kind.result c.waiting_kind.ensures c.leave_kept.ensures.course;
    }

-- ---- refused: it goes into the first old word

pub leave_unsettled-requires-clause-waits : goal.leave_unsettled-requires-clause-waits
leave_unsettled-requires-clause-waits g c =
    let b = c.requires.waits in (b.1.lent, _, waits_as b.1 c.level_type-kind.ensures c.if-not-own.false)

pub put_old-requires : goal.put_old-requires
put_old-requires g c =
    record {
      frame = subst (λ (p : Post). c.args.frame < p.machine.frames) (sym (came_post _ _ c.leave_unsettled.ensures.came)) c.requires.frame;
      may = stays_may c.requires.waits.1 c.level_type-kind.ensures c.if-not-own.false _
          c.leave_unsettled.ensures.hand c.requires.may;
      empty = stays_room c.requires.waits.1 c.level_type-kind.ensures c.if-not-own.false _
          c.leave_unsettled.ensures.hand c.requires.room;
      held = stays_held c.requires.waits.1 c.level_type-kind.ensures c.if-not-own.false _
          c.leave_unsettled.ensures.hand;
    }

pub returns-else-kept : goal.returns-else-kept
unfolding ServesWaiting
returns-else-kept g c =
    let d = g.P.Port.value c.leave_unsettled.new.port in
    let z = g.P.Port.value c.put_old.new.port in
    let x = g.P.Port.value c.args.port.now in
    let f = c.args.frame in
    let u = g.P.Port.value c.args.port.now in
    let k = partial_kind c.level_type-kind.result false true 0 c.args.stamp in
    let is = unkept_is c.requires.waits.1 c.level_type-kind.ensures c.if-not-own.false in
    record {
      came = came_trans _ _ _ c.leave_unsettled.ensures.came (moves_came _ _ _ _ _ _ 0 c.put_old.ensures.moves);
      serves = λ u r ds before asks locks. marked_none _ _ r _ _ _ ds
          (old_serves _ _ _ r ds (type_left _ _ _ r ds _ _ _ before asks (subst (λ k. ServesType x d f k) c.level_type-kind.ensures c.leave_unsettled.ensures.serves)) (f + 1) c.put_old.ensures.moves);
      hand = λ v a. named_hand v z c.args.frame c.args.owner c.args.own c.args.kept c.if-not-own.false c.if-kept.false
          (named_left a c.level_type-kind.ensures c.if-not-own.false d c.leave_unsettled.ensures.hand z c.put_old.ensures.hand);
      course = waiting_named _ _ _ _ _ _ _ _ c.level_type-kind.ensures
          c.if-not-own.false c.if-kept.false (g.P.Port.value c.leave_unsettled.new.port) c.leave_unsettled.ensures.visits c.put_old.ensures.moves;
    }
