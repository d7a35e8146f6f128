use Rattle.std.proofs.Common.{◌≡◌, ◌++◌, take, string_bytes}
use Rattle.machine_draw.specs.Tables.{others_text}
use Rattle.machine_draw.proofs.tables.put_others.Given as goal

abbrev pub invariant-loop-run : goal.invariant-loop-run
invariant-loop-run l = string_bytes l.out ≡ string_bytes l.initial.out ++ others_text l.frame (take l.run-index l.runs)
