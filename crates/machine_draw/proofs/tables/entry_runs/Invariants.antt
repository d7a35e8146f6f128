use Rattle.std.proofs.Common.{◌≡◌}
use Rattle.machine_draw.specs.Tables.{entry_runs}
use Rattle.machine_draw.proofs.tables.entry_runs.Given as goal

abbrev pub invariant-loop-index : goal.invariant-loop-index
invariant-loop-index l = l.runs.items ≡ entry_runs l.image l.table l.index
