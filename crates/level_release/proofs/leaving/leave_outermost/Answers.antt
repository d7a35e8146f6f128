use Rattle.std.proofs.Common.{[]}
use Rattle.step_maker.proofs.Coming.{came_trans, moves_came}
use Rattle.level_release.proofs.HandsLeft.{left_held, left_inside, left_may, left_room, partial_hand}
use Rattle.level_release.proofs.HandsNamed.{named_stands}
use Rattle.level_release.proofs.leaving.leave_outermost.Goals as goal

pub leave_partial-requires : goal.leave_partial-requires
leave_partial-requires g c = record { may = c.requires.may; stands = ([], c.requires.stands) }

pub put_old-requires : goal.put_old-requires
put_old-requires g c =
    let s = c.requires.stands.1 in
    let k = partial_hand s (g.P.Port.value c.leave_partial.new.port) c.leave_partial.ensures.hand in
    record { frame = left_inside s k; may = left_may s k c.requires.may; empty = left_room s k c.requires.room; held = left_held s k }

pub returns-clause-course : goal.returns-clause-course
returns-clause-course g c = (g.P.Port.value c.leave_partial.new.port, c.leave_partial.ensures.course, c.put_old.ensures.moves)

pub returns-clause-came : goal.returns-clause-came
returns-clause-came g c =
    came_trans (g.P.Port.value c.args.port.now) (g.P.Port.value c.leave_partial.new.port) (g.P.Port.value c.put_old.new.port) (moves_came _ _ _ _ _ _ _ c.leave_partial.ensures.course.1) (moves_came _ _ _ _ _ _ _ c.put_old.ensures.moves)

pub returns-clause-hand : goal.returns-clause-hand
returns-clause-hand g c h s = named_stands s (partial_hand s (g.P.Port.value c.leave_partial.new.port) c.leave_partial.ensures.hand) (g.P.Port.value c.put_old.new.port) c.put_old.ensures.hand
