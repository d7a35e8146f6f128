use Rattle.std.proofs.Common.{◌≡◌, ◌++◌, string_bytes}
use Rattle.machine_draw.specs.Tables.{all_edges}
use Rattle.machine_draw.proofs.tables.put_tables.Given as goal

abbrev pub invariant-loop-frame : goal.invariant-loop-frame
invariant-loop-frame l = string_bytes l.out ≡ string_bytes l.initial.out ++ all_edges l.image l.frame
