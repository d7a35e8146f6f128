use Rattle.std.proofs.Common.{◌≡◌, ◌++◌, take, string_bytes}
use Rattle.trace_lines.specs.Spelling.{spaced, pair_words}
use Rattle.trace_lines.proofs.put.put_pairs.Given as goal

abbrev pub invariant-loop-pair : goal.invariant-loop-pair
invariant-loop-pair l = string_bytes l.out ≡ string_bytes l.initial.out ++ spaced (pair_words (take l.pair-index l.pairs))
