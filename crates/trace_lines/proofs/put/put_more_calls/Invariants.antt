use Rattle.std.proofs.Common.{◌≡◌, ◌++◌, take, string_bytes}
use Rattle.std.specs.Prelude.{codes}
use Rattle.std.specs.List.{flat_map}
use Rattle.trace_lines.specs.Spelling.{spaced, call_words}
use Rattle.trace_lines.proofs.put.put_more_calls.Given as goal

abbrev pub invariant-loop-call : goal.invariant-loop-call
invariant-loop-call l = string_bytes l.out ≡ string_bytes l.initial.out ++ flat_map (λ c. codes " ;" ++ spaced (call_words c)) (take l.call-index l.calls)
