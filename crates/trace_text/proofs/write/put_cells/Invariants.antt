use Rattle.std.proofs.Common.{◌≡◌, ◌++◌, take, map, string_bytes}
use Rattle.trace_text.specs.Lines.{spelling, cell_line}
use Rattle.trace_text.proofs.write.put_cells.Given as goal

abbrev pub invariant-loop-c : goal.invariant-loop-c
invariant-loop-c l = string_bytes l.out ≡ string_bytes l.initial.out ++ spelling (map cell_line (take l.c-index l.cells))
