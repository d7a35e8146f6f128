use Rattle.mmuext_ops.specs.Course.{flushed}
use Rattle.mmuext_ops.proofs.Dropped.{flushed_serves, spent_course, spent_kind, spent_serves}
use Rattle.mmuext_ops.proofs.translations.flush_local.Goals as goal

pub returns-in-Ok-clause-serves : goal.returns-in-Ok-clause-serves
returns-in-Ok-clause-serves g c = λ d. flushed_serves _ _ d c.in-Ok.ensures.serves

pub returns-in-Ok-clause-course : goal.returns-in-Ok-clause-course
returns-in-Ok-clause-course g c = flushed c.in-Ok.ensures.course c.in-Ok.ensures.hand

pub returns-in-Err-clause-serves : goal.returns-in-Err-clause-serves
returns-in-Err-clause-serves g c = λ d. spent_serves _ _ c.in-Err.refusal c.in-Err.ensures.course d c.in-Err.ensures.serves

pub returns-in-Err-clause-kinds : goal.returns-in-Err-clause-kinds
returns-in-Err-clause-kinds g c = spent_kind _ _ c.in-Err.refusal c.in-Err.ensures.course

pub returns-in-Err-clause-course : goal.returns-in-Err-clause-course
returns-in-Err-clause-course g c = spent_course _ _ c.in-Err.refusal c.in-Err.ensures.course c.in-Err.ensures.hand
