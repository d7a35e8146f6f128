use Rattle.std.proofs.Common.{sym}
use Rattle.word_readers.proofs.Reading.{few_recorded}
use Rattle.machine_draw.proofs.tables.put_table.Goals as goal

pub put_edges-requires-clause-recorded : goal.put_edges-requires-clause-recorded
put_edges-requires-clause-recorded c = rw c.recorded_entries-recorded.ensures.entries (few_recorded _ _ (sym c.in-Some.ensures))
