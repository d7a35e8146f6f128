use Rattle.std.proofs.Common.{◌≡◌, ◌++◌, string_bytes}
use Rattle.machine_draw.specs.Tables.{target_edges}
use Rattle.machine_draw.proofs.tables.put_targets.Given as goal

abbrev pub invariant-loop-index : goal.invariant-loop-index
invariant-loop-index l = string_bytes l.out ≡ string_bytes l.initial.out ++ target_edges l.table l.runs l.index
