use Rattle.trace_lines.proofs.Separators.{split_separated, shorter_separated, split_together}
use Rattle.trace_lines.proofs.words.Words.split_call.Goals as goal

pub returns-in-None-clause-parts : goal.returns-in-None-clause-parts
returns-in-None-clause-parts c = rw (← c.self.view_is) (split_together _ c.in-None.ensures.parts)

pub returns-in-Some-clause-shorter : goal.returns-in-Some-clause-shorter
returns-in-Some-clause-shorter c = rw (← c.self.view_is, c.split_at-in-Some.ensures.back) (shorter_separated _ _ _ c.in-Some.ensures.parts)

pub returns-in-Some-clause-parts : goal.returns-in-Some-clause-parts
returns-in-Some-clause-parts c = rw (← c.self.view_is, c.split_at-in-Some.ensures.back, c.split_at.ensures.front) (split_separated _ _ _ c.in-Some.ensures.parts)
