use Rattle.std.proofs.Common.{◌≡◌, ◌++◌, take, string_bytes}
use Rattle.trace_lines.specs.Spelling.{spaced, triple_words}
use Rattle.trace_lines.proofs.put.put_triples.Given as goal

abbrev pub invariant-loop-op : goal.invariant-loop-op
invariant-loop-op l = string_bytes l.out ≡ string_bytes l.initial.out ++ spaced (triple_words (take l.op-index l.list))
