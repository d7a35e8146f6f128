use Rattle.std.proofs.Common.{◌≡◌, ◌++◌, take, map, string_bytes}
use Rattle.trace_text.specs.Lines.{spelling, turn_line}
use Rattle.trace_text.proofs.write.put_turns.Given as goal

abbrev pub invariant-loop-t : goal.invariant-loop-t
invariant-loop-t l = string_bytes l.out ≡ string_bytes l.initial.out ++ spelling (map turn_line (take l.t-index l.turns))
