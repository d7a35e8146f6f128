use Rattle.std.proofs.Common.{sym}
use Rattle.machine_draw.proofs.OwnRuns.{leads_itself}
use Rattle.machine_draw.proofs.tables.run_at.Goals as goal

pub run_from-requires-clause-leads : goal.run_from-requires-clause-leads
run_from-requires-clause-leads c = leads_itself _ _ _ _ _ _ c.word-word.ensures (sym c.in-Some.ensures) c.writable.ensures
