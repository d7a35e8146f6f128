use Rattle.std.proofs.Common.{sym, refl}
use Rattle.machine_draw.specs.Named.{table_names}
use Rattle.machine_draw.proofs.Marks.{unmarked}
use Rattle.word_readers.proofs.Reading.{few_recorded}
use Rattle.machine_draw.proofs.named.mark_table.Goals as goal

pub mark_entries-requires-clause-count : goal.mark_entries-requires-clause-count
mark_entries-requires-clause-count c = rw c.recorded_entries.ensures.entries (few_recorded _ _ (sym c.in-Some.ensures))

pub returns-in-Some : goal.returns-in-Some
unfolding table_names
returns-in-Some c = λ f low. rw (← c.word.ensures, ← c.in-Some.ensures, ← c.recorded_entries.ensures.entries) (c.mark_entries.ensures f low)

pub returns-in_default : goal.returns-in_default
unfolding table_names
returns-in_default c = λ f low. rw (← c.word.ensures, ← c.in_default.ensures) (unmarked _ _ refl)
