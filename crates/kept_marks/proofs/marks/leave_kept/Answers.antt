use Rattle.std.proofs.Common.{refl, inl, inr}
use Rattle.step_maker.proofs.Coming.{came_trans, moves_came}
use Rattle.kept_marks.proofs.Hands.{alive_hand, back_empty, back_held, back_may, looks_may, named_hand, taken_hand}
use Rattle.kept_marks.proofs.Keeping.{alive_course, alive_serves, dying_course, dying_serves, foreign_by, is_alive, is_dying, own_serves, taken_course, taken_serves}
use Rattle.kept_marks.proofs.marks.leave_kept.Goals as goal

pub returns-then-owner-own_domain-clause-came : goal.returns-then-owner-own_domain-clause-came
returns-then-owner-own_domain-clause-came g c = moves_came (g.P.Port.value c.args.port.now) (g.P.Port.value c.leave.new.port) _ _ _ _ _ c.leave.ensures.moves

pub returns-then-owner-own_domain-clause-serves : goal.returns-then-owner-own_domain-clause-serves
returns-then-owner-own_domain-clause-serves g c = own_serves (g.P.Port.value c.args.port.now) (g.P.Port.value c.leave.new.port) c.args.frame c.args.kind c.args.owner c.requires.leaves c.requires.partial _ c.leave.ensures.moves

pub returns-then-is_alive-clause-came : goal.returns-then-is_alive-clause-came
returns-then-is_alive-clause-came g c = came_trans (g.P.Port.value c.args.port.now) (g.P.Port.value c.leave.new.port) (g.P.Port.value c.look_life.new.port) (moves_came (g.P.Port.value c.args.port.now) (g.P.Port.value c.leave.new.port) _ _ _ _ _ c.leave.ensures.moves) (moves_came (g.P.Port.value c.leave.new.port) (g.P.Port.value c.look_life.new.port) _ _ _ _ _ c.look_life.ensures.moves)

pub returns-then-is_alive-clause-hand : goal.returns-then-is_alive-clause-hand
returns-then-is_alive-clause-hand g c = inl (alive_hand (g.P.Port.value c.args.port.now) c.args.frame c.args.kind c.args.owner c.requires.leaves c.requires.partial c.requires.kept c.requires.known c.requires.looked (g.P.Port.value c.leave.new.port) (g.P.Port.value c.look_life.new.port) c.look_life.result c.leave.ensures.hand c.look_life.ensures.hand (is_alive c.is_alive.result c.look_life.result c.if-is_alive.true c.is_alive.ensures))

pub returns-then-is_alive-clause-serves : goal.returns-then-is_alive-clause-serves
returns-then-is_alive-clause-serves g c = alive_serves (g.P.Port.value c.args.port.now) (g.P.Port.value c.leave.new.port) c.args.frame c.args.kind c.args.owner c.requires.leaves c.requires.partial _ c.leave.ensures.moves (g.P.Port.value c.look_life.new.port) c.look_life.result c.look_life.ensures.moves

pub returns-then-is_alive-clause-course : goal.returns-then-is_alive-clause-course
returns-then-is_alive-clause-course g c = alive_course (g.P.Port.value c.args.port.now) (g.P.Port.value c.leave.new.port) c.args.frame c.args.kind c.args.owner c.requires.leaves c.requires.partial _ c.leave.ensures.moves (g.P.Port.value c.look_life.new.port) c.look_life.result c.look_life.ensures.moves (foreign_by (g.P.Port.value c.args.port.now) (g.P.Port.value c.leave.new.port) c.args.owner c.own_domain.result (moves_came (g.P.Port.value c.args.port.now) (g.P.Port.value c.leave.new.port) _ _ _ _ _ c.leave.ensures.moves) c.if-owner-own_domain.false c.own_domain.ensures.own) (is_alive c.is_alive.result c.look_life.result c.if-is_alive.true c.is_alive.ensures)

pub take_back-requires-clause-may : goal.take_back-requires-clause-may
take_back-requires-clause-may g c = looks_may (g.P.Port.value c.args.port.now) c.args.frame c.args.kind c.args.owner c.requires.leaves c.requires.partial c.requires.kept c.requires.known c.requires.looked (g.P.Port.value c.leave.new.port) (g.P.Port.value c.look_life.new.port) c.look_life.result c.leave.ensures.hand c.look_life.ensures.hand (foreign_by (g.P.Port.value c.args.port.now) (g.P.Port.value c.leave.new.port) c.args.owner c.own_domain.result (moves_came (g.P.Port.value c.args.port.now) (g.P.Port.value c.leave.new.port) _ _ _ _ _ c.leave.ensures.moves) c.if-owner-own_domain.false c.own_domain.ensures.own) (is_dying c.is_alive.result c.look_life.result c.if-is_alive.false c.is_alive.ensures) c.requires.may

pub put_old-requires-clause-may : goal.put_old-requires-clause-may
put_old-requires-clause-may g c = back_may (g.P.Port.value c.args.port.now) c.args.frame c.args.kind c.args.owner c.requires.leaves c.requires.partial c.requires.kept c.requires.known c.requires.looked (g.P.Port.value c.leave.new.port) (g.P.Port.value c.look_life.new.port) c.look_life.result c.leave.ensures.hand c.look_life.ensures.hand (foreign_by (g.P.Port.value c.args.port.now) (g.P.Port.value c.leave.new.port) c.args.owner c.own_domain.result (moves_came (g.P.Port.value c.args.port.now) (g.P.Port.value c.leave.new.port) _ _ _ _ _ c.leave.ensures.moves) c.if-owner-own_domain.false c.own_domain.ensures.own) (is_dying c.is_alive.result c.look_life.result c.if-is_alive.false c.is_alive.ensures) (g.P.Port.value c.take_back.new.port) c.in-Ok.ensures.hand c.requires.may

pub put_old-requires-clause-empty : goal.put_old-requires-clause-empty
put_old-requires-clause-empty g c = back_empty (g.P.Port.value c.args.port.now) c.args.frame c.args.kind c.args.owner c.requires.leaves c.requires.partial c.requires.kept c.requires.known c.requires.looked (g.P.Port.value c.leave.new.port) (g.P.Port.value c.look_life.new.port) c.look_life.result c.leave.ensures.hand c.look_life.ensures.hand (foreign_by (g.P.Port.value c.args.port.now) (g.P.Port.value c.leave.new.port) c.args.owner c.own_domain.result (moves_came (g.P.Port.value c.args.port.now) (g.P.Port.value c.leave.new.port) _ _ _ _ _ c.leave.ensures.moves) c.if-owner-own_domain.false c.own_domain.ensures.own) (is_dying c.is_alive.result c.look_life.result c.if-is_alive.false c.is_alive.ensures) (g.P.Port.value c.take_back.new.port) c.in-Ok.ensures.hand (c.requires.room (foreign_by (g.P.Port.value c.args.port.now) (g.P.Port.value c.leave.new.port) c.args.owner c.own_domain.result (moves_came (g.P.Port.value c.args.port.now) (g.P.Port.value c.leave.new.port) _ _ _ _ _ c.leave.ensures.moves) c.if-owner-own_domain.false c.own_domain.ensures.own))

pub put_old-requires-clause-held : goal.put_old-requires-clause-held
put_old-requires-clause-held g c = back_held (g.P.Port.value c.args.port.now) c.args.frame c.args.kind c.args.owner c.requires.leaves c.requires.partial c.requires.kept c.requires.known c.requires.looked (g.P.Port.value c.leave.new.port) (g.P.Port.value c.look_life.new.port) c.look_life.result c.leave.ensures.hand c.look_life.ensures.hand (foreign_by (g.P.Port.value c.args.port.now) (g.P.Port.value c.leave.new.port) c.args.owner c.own_domain.result (moves_came (g.P.Port.value c.args.port.now) (g.P.Port.value c.leave.new.port) _ _ _ _ _ c.leave.ensures.moves) c.if-owner-own_domain.false c.own_domain.ensures.own) (is_dying c.is_alive.result c.look_life.result c.if-is_alive.false c.is_alive.ensures) (g.P.Port.value c.take_back.new.port) c.in-Ok.ensures.hand

pub returns-in-Ok-clause-came : goal.returns-in-Ok-clause-came
returns-in-Ok-clause-came g c = came_trans (g.P.Port.value c.args.port.now) (g.P.Port.value c.take_back.new.port) (g.P.Port.value c.put_old.new.port) (came_trans (g.P.Port.value c.args.port.now) (g.P.Port.value c.look_life.new.port) (g.P.Port.value c.take_back.new.port) (came_trans (g.P.Port.value c.args.port.now) (g.P.Port.value c.leave.new.port) (g.P.Port.value c.look_life.new.port) (moves_came (g.P.Port.value c.args.port.now) (g.P.Port.value c.leave.new.port) _ _ _ _ _ c.leave.ensures.moves) (moves_came (g.P.Port.value c.leave.new.port) (g.P.Port.value c.look_life.new.port) _ _ _ _ _ c.look_life.ensures.moves)) (moves_came (g.P.Port.value c.look_life.new.port) (g.P.Port.value c.take_back.new.port) _ _ _ _ _ c.in-Ok.ensures.moves)) (moves_came (g.P.Port.value c.take_back.new.port) (g.P.Port.value c.put_old.new.port) _ _ _ _ _ c.put_old.ensures.moves)

pub returns-in-Ok-clause-hand : goal.returns-in-Ok-clause-hand
returns-in-Ok-clause-hand g c = inr ((foreign_by (g.P.Port.value c.args.port.now) (g.P.Port.value c.leave.new.port) c.args.owner c.own_domain.result (moves_came (g.P.Port.value c.args.port.now) (g.P.Port.value c.leave.new.port) _ _ _ _ _ c.leave.ensures.moves) c.if-owner-own_domain.false c.own_domain.ensures.own), named_hand (g.P.Port.value c.args.port.now) c.args.frame c.args.kind c.args.owner c.requires.leaves c.requires.partial c.requires.kept c.requires.known c.requires.looked (g.P.Port.value c.leave.new.port) (g.P.Port.value c.look_life.new.port) c.look_life.result c.leave.ensures.hand c.look_life.ensures.hand (foreign_by (g.P.Port.value c.args.port.now) (g.P.Port.value c.leave.new.port) c.args.owner c.own_domain.result (moves_came (g.P.Port.value c.args.port.now) (g.P.Port.value c.leave.new.port) _ _ _ _ _ c.leave.ensures.moves) c.if-owner-own_domain.false c.own_domain.ensures.own) (is_dying c.is_alive.result c.look_life.result c.if-is_alive.false c.is_alive.ensures) (g.P.Port.value c.take_back.new.port) c.in-Ok.ensures.hand (g.P.Port.value c.put_old.new.port) c.put_old.ensures.hand)

pub returns-in-Ok-clause-serves : goal.returns-in-Ok-clause-serves
returns-in-Ok-clause-serves g c = dying_serves (g.P.Port.value c.args.port.now) (g.P.Port.value c.leave.new.port) c.args.frame c.args.kind c.args.owner c.requires.leaves c.requires.partial _ c.leave.ensures.moves (g.P.Port.value c.look_life.new.port) c.look_life.result c.look_life.ensures.moves (foreign_by (g.P.Port.value c.args.port.now) (g.P.Port.value c.leave.new.port) c.args.owner c.own_domain.result (moves_came (g.P.Port.value c.args.port.now) (g.P.Port.value c.leave.new.port) _ _ _ _ _ c.leave.ensures.moves) c.if-owner-own_domain.false c.own_domain.ensures.own) c.requires.page (g.P.Port.value c.take_back.new.port) _ c.in-Ok.ensures.moves (g.P.Port.value c.put_old.new.port) refl c.put_old.ensures.moves

pub returns-in-Ok-clause-course : goal.returns-in-Ok-clause-course
returns-in-Ok-clause-course g c = dying_course (g.P.Port.value c.args.port.now) (g.P.Port.value c.leave.new.port) c.args.frame c.args.kind c.args.owner c.requires.leaves c.requires.partial _ c.leave.ensures.moves (g.P.Port.value c.look_life.new.port) c.look_life.result c.look_life.ensures.moves (foreign_by (g.P.Port.value c.args.port.now) (g.P.Port.value c.leave.new.port) c.args.owner c.own_domain.result (moves_came (g.P.Port.value c.args.port.now) (g.P.Port.value c.leave.new.port) _ _ _ _ _ c.leave.ensures.moves) c.if-owner-own_domain.false c.own_domain.ensures.own) c.requires.page (g.P.Port.value c.take_back.new.port) _ c.in-Ok.ensures.moves (g.P.Port.value c.put_old.new.port) refl c.put_old.ensures.moves (is_dying c.is_alive.result c.look_life.result c.if-is_alive.false c.is_alive.ensures)

pub returns-in-Err-clause-came : goal.returns-in-Err-clause-came
returns-in-Err-clause-came g c = came_trans (g.P.Port.value c.args.port.now) (g.P.Port.value c.look_life.new.port) (g.P.Port.value c.take_back.new.port) (came_trans (g.P.Port.value c.args.port.now) (g.P.Port.value c.leave.new.port) (g.P.Port.value c.look_life.new.port) (moves_came (g.P.Port.value c.args.port.now) (g.P.Port.value c.leave.new.port) _ _ _ _ _ c.leave.ensures.moves) (moves_came (g.P.Port.value c.leave.new.port) (g.P.Port.value c.look_life.new.port) _ _ _ _ _ c.look_life.ensures.moves)) (moves_came (g.P.Port.value c.look_life.new.port) (g.P.Port.value c.take_back.new.port) _ _ _ _ _ c.in-Err.ensures.moves)

pub returns-in-Err-clause-hand : goal.returns-in-Err-clause-hand
returns-in-Err-clause-hand g c = inl (taken_hand (g.P.Port.value c.args.port.now) c.args.frame c.args.kind c.args.owner c.requires.leaves c.requires.partial c.requires.kept c.requires.known c.requires.looked (g.P.Port.value c.leave.new.port) (g.P.Port.value c.look_life.new.port) c.look_life.result c.leave.ensures.hand c.look_life.ensures.hand (foreign_by (g.P.Port.value c.args.port.now) (g.P.Port.value c.leave.new.port) c.args.owner c.own_domain.result (moves_came (g.P.Port.value c.args.port.now) (g.P.Port.value c.leave.new.port) _ _ _ _ _ c.leave.ensures.moves) c.if-owner-own_domain.false c.own_domain.ensures.own) (is_dying c.is_alive.result c.look_life.result c.if-is_alive.false c.is_alive.ensures) (g.P.Port.value c.take_back.new.port) _ c.in-Err.ensures.hand c.in-Err.ensures.lost)

pub returns-in-Err-clause-serves : goal.returns-in-Err-clause-serves
returns-in-Err-clause-serves g c = taken_serves (g.P.Port.value c.args.port.now) (g.P.Port.value c.leave.new.port) c.args.frame c.args.kind c.args.owner c.requires.leaves c.requires.partial _ c.leave.ensures.moves (g.P.Port.value c.look_life.new.port) c.look_life.result c.look_life.ensures.moves (foreign_by (g.P.Port.value c.args.port.now) (g.P.Port.value c.leave.new.port) c.args.owner c.own_domain.result (moves_came (g.P.Port.value c.args.port.now) (g.P.Port.value c.leave.new.port) _ _ _ _ _ c.leave.ensures.moves) c.if-owner-own_domain.false c.own_domain.ensures.own) c.requires.page (g.P.Port.value c.take_back.new.port) _ c.in-Err.ensures.moves c.in-Err.ensures.lost

pub returns-in-Err-clause-course : goal.returns-in-Err-clause-course
returns-in-Err-clause-course g c = taken_course (g.P.Port.value c.args.port.now) (g.P.Port.value c.leave.new.port) c.args.frame c.args.kind c.args.owner c.requires.leaves c.requires.partial _ c.leave.ensures.moves (g.P.Port.value c.look_life.new.port) c.look_life.result c.look_life.ensures.moves (foreign_by (g.P.Port.value c.args.port.now) (g.P.Port.value c.leave.new.port) c.args.owner c.own_domain.result (moves_came (g.P.Port.value c.args.port.now) (g.P.Port.value c.leave.new.port) _ _ _ _ _ c.leave.ensures.moves) c.if-owner-own_domain.false c.own_domain.ensures.own) c.requires.page (g.P.Port.value c.take_back.new.port) _ c.in-Err.ensures.moves (is_dying c.is_alive.result c.look_life.result c.if-is_alive.false c.is_alive.ensures) c.in-Err.ensures.lost
