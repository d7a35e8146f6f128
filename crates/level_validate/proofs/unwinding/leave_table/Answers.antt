use Rattle.std.proofs.Common.{refl}
use Rattle.level_validate.proofs.Leaving.{outer_unwinds}
use Rattle.level_validate.proofs.Unwound.{none_hand, none_serves}
use Rattle.level_validate.proofs.unwinding.leave_table.Goals as goal

-- ---- it is the only one

pub returns-then-is_empty-clause-hand : goal.returns-then-is_empty-clause-hand
returns-then-is_empty-clause-hand g c =
    none_hand _ _ _ _ _ _ (c.if-is_empty.ensures.0 refl) c.leave_outermost.ensures.hand

pub returns-then-is_empty-clause-serves : goal.returns-then-is_empty-clause-serves
returns-then-is_empty-clause-serves g c =
    none_serves _ _ _ _ _ _ (c.if-is_empty.ensures.0 refl) c.leave_outermost.ensures.serves

pub returns-then-is_empty-clause-course : goal.returns-then-is_empty-clause-course
returns-then-is_empty-clause-course g c =
    outer_unwinds _ _ _ _ _ _ (c.if-is_empty.ensures.0 refl) c.leave_outermost.ensures.course

-- ---- others stand around it
