use Rattle.xp_machine.specs.Audited.{IsImageDue}
use Rattle.xp_machine.specs.Due.{bytes_of}
use Rattle.xp_machine.proofs.Statuses.{image_has_text}
use Rattle.xp_machine.proofs.audits.show_what_is_read.Goals as goal

pub returns-in-Ok-write_text-clause-outcome : goal.returns-in-Ok-write_text-clause-outcome
returns-in-Ok-write_text-clause-outcome g c =
    (image_has_text _ _ _ _ _ c.in-Ok.ensures.due).wrote (IsImageDue c.args.showing) _ _ _ _ (bytes_of c.in-Ok.field-0.text, c.in-Ok.ensures.due, c.in-Ok-write_text.ensures.whole)

pub returns-in-Ok-write_text-clause-words : goal.returns-in-Ok-write_text-clause-words
returns-in-Ok-write_text-clause-words g c e = (image_has_text _ _ _ _ _ c.in-Ok.ensures.due).no_words e

pub returns-in-Ok-write_text-clause-read : goal.returns-in-Ok-write_text-clause-read
returns-in-Ok-write_text-clause-read g c e = absurd ((image_has_text _ _ _ _ _ c.in-Ok.ensures.due).no_read e)

pub returns-in-Ok-write_text-clause-write : goal.returns-in-Ok-write_text-clause-write
returns-in-Ok-write_text-clause-write g c e = absurd ((image_has_text _ _ _ _ _ c.in-Ok.ensures.due).no_write e)
