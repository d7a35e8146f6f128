use Rattle.std.proofs.Common.{drop, sym, ◌∙◌}
use Rattle.step_maker.proofs.Coming.{came_trans, moves_came}
use Rattle.level_release.proofs.HandsRecorded.{inside_asks, inside_done}
use Rattle.level_release.proofs.leaving.leave_inside.Goals as goal

pub leave_partial-requires : goal.leave_partial-requires
leave_partial-requires g c = record { may = c.requires.may; stands = (c.args.stack.now, c.requires.stands) }

pub record_entry-requires : goal.record_entry-requires
record_entry-requires g c =
    let s = c.requires.stands in
    inside_asks s.0 c.args.table c.leave_partial.ensures.hand c.leave_partial.ensures.course.1
    c.args.stack.now c.requires.inner s.1 c.in-Some.outer (drop 1 c.retreat.new.self) (sym c.retreat.ensures.retreated ∙ c.in-Some.ensures.some)

pub returns-in-Some-clause-came : goal.returns-in-Some-clause-came
returns-in-Some-clause-came g c =
    came_trans (g.P.Port.value c.args.port.now) (g.P.Port.value c.leave_partial.new.port) (g.P.Port.value c.record_entry.new.port) (moves_came _ _ _ _ _ _ _ c.leave_partial.ensures.course.1) (moves_came _ _ _ _ _ _ _ c.record_entry.ensures.moves)

pub returns-in-Some-clause-stands : goal.returns-in-Some-clause-stands
returns-in-Some-clause-stands g c h s =
    inside_done h c.args.table c.leave_partial.ensures.hand c.leave_partial.ensures.course.1 c.args.stack.now c.requires.inner s c.in-Some.outer (drop 1 c.retreat.new.self) c.retreat.new.self
    c.in-Some.ensures.some c.retreat.ensures.retreated (g.P.Port.value c.record_entry.new.port) c.record_entry.ensures.hand (moves_came _ _ _ _ _ _ _ c.record_entry.ensures.moves)
