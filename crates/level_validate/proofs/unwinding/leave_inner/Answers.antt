use Rattle.std.proofs.Common.{true, false, refl}
use Rattle.level_validate.proofs.Leaving.{retreat_some, lent_unwinds, own_unwinds}
use Rattle.level_validate.proofs.Standing.{is_so}
use Rattle.level_validate.proofs.unwinding.leave_inner.Goals as goal
use Rattle.xp_words.proofs.Shared.{not_true as not_so}

pub retreat-requires : goal.retreat-requires
retreat-requires g c =
    retreat_some c.requires.stands.1.0 _ c.requires.stands.0 _ _ c.requires.stands.1.1 (not_so _ c.if-not-table.true) c.requires.inner

-- ---- its part of the course

pub returns-then-table-clause-course : goal.returns-then-table-clause-course
returns-then-table-clause-course g c owner kept =
    own_unwinds _ _ owner _ kept _ c.requires.inner c.if-table.true c.leave_own.ensures.course

pub returns-then-not-table-clause-course : goal.returns-then-not-table-clause-course
returns-then-not-table-clause-course g c owner kept =
    lent_unwinds _ _ owner _ kept _ _ false c.requires.inner c.if-table.false
    (not_so _ c.if-not-table.true) c.retreat.ensures.retreated c.leave_lent.ensures.course

pub returns-else-not-table-clause-course : goal.returns-else-not-table-clause-course
returns-else-not-table-clause-course g c owner kept =
    lent_unwinds _ _ owner _ kept _ _ true c.requires.inner c.if-table.false
    (is_so _ c.if-not-table.false) refl c.leave_lent.ensures.course
