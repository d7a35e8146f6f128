use Rattle.std.proofs.Common.{◌≡◌, ◌++◌, take, map, string_bytes}
use Rattle.trace_text.specs.Lines.{spelling, own_line}
use Rattle.trace_text.proofs.write.put_owned.Given as goal

abbrev pub invariant-loop-o : goal.invariant-loop-o
invariant-loop-o l = string_bytes l.out ≡ string_bytes l.initial.out ++ spelling (map own_line (take l.o-index l.owned))
