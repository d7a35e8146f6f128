use Rattle.xp_machine.specs.Outcome.{IsDue}
use Rattle.xp_machine.specs.Due.{bytes_of}
use Rattle.xp_machine.proofs.Statuses.{due_has_text}
use Rattle.xp_machine.proofs.top.run_with.Goals as goal

pub returns-in-Ok-write_text-clause-outcome : goal.returns-in-Ok-write_text-clause-outcome
returns-in-Ok-write_text-clause-outcome g c =
    (due_has_text _ _ _ _ _ _ c.in-Ok.ensures.due).wrote (IsDue _ _) _ _ _ _ (bytes_of c.in-Ok.field-0.text, c.in-Ok.ensures.due, c.in-Ok-write_text.ensures.whole)

pub returns-in-Ok-write_text-clause-words : goal.returns-in-Ok-write_text-clause-words
returns-in-Ok-write_text-clause-words g c e = (due_has_text _ _ _ _ _ _ c.in-Ok.ensures.due).no_words e

pub returns-in-Ok-write_text-clause-read : goal.returns-in-Ok-write_text-clause-read
returns-in-Ok-write_text-clause-read g c e = absurd ((due_has_text _ _ _ _ _ _ c.in-Ok.ensures.due).no_read e)

pub returns-in-Ok-write_text-clause-write : goal.returns-in-Ok-write_text-clause-write
returns-in-Ok-write_text-clause-write g c e = absurd ((due_has_text _ _ _ _ _ _ c.in-Ok.ensures.due).no_write e)
