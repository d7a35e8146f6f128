use Rattle.std.proofs.Common.{◌≡◌, length}
use Rattle.trace_lines.specs.Grammar.{calls_of}
use Rattle.trace_lines.specs.Steps.{with_front}
use Rattle.trace_lines.proofs.operation.calls.Given as goal

abbrev pub invariant-calls : goal.invariant-calls
invariant-calls l = with_front l.list.items (calls_of l.words) ≡ calls_of l.initial.words

abbrev pub decreases-calls : goal.decreases-calls
decreases-calls l = length l.words
