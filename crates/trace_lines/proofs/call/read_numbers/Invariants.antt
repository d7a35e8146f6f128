use Rattle.std.proofs.Common.{◌≡◌, length}
use Rattle.trace_lines.specs.Steps.{with_front}
use Rattle.trace_lines.specs.Grammar.{numbers_of}
use Rattle.trace_lines.proofs.call.read_numbers.Given as goal

abbrev pub invariant-words : goal.invariant-words
invariant-words l = with_front l.items.items (numbers_of l.words) ≡ numbers_of l.initial.words

abbrev pub decreases-words : goal.decreases-words
decreases-words l = length l.words
