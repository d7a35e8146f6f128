use Rattle.std.proofs.Common.{◌≡◌, ◌∷◌, [], length}
use Rattle.trace_lines.specs.Steps.{with_front}
use Rattle.trace_lines.specs.Grammar.{spelled_pairs}
use Rattle.trace_lines.proofs.call.pairs_behind.Given as goal

abbrev pub invariant-words : goal.invariant-words
invariant-words l = with_front l.items.items (spelled_pairs l.words) ≡ with_front (l.fn.first ∷ []) (spelled_pairs l.initial.words)

abbrev pub decreases-words : goal.decreases-words
decreases-words l = length l.words
