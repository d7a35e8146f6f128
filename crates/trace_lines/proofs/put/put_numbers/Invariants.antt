use Rattle.std.proofs.Common.{◌≡◌, ◌++◌, take, string_bytes}
use Rattle.trace_lines.specs.Spelling.{spaced, number_words}
use Rattle.trace_lines.proofs.put.put_numbers.Given as goal

abbrev pub invariant-loop-n : goal.invariant-loop-n
invariant-loop-n l = string_bytes l.out ≡ string_bytes l.initial.out ++ spaced (number_words (take l.n-index l.numbers))
