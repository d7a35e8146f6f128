use Rattle.std.proofs.Common.{length, ◌-◌}
use Rattle.trace_lines.proofs.Separators.{IsPassed}
use Rattle.trace_lines.proofs.words.separator_place.Given as goal

abbrev pub invariant-words : goal.invariant-words
invariant-words l = IsPassed l.spaced l.place

abbrev pub decreases-words : goal.decreases-words
decreases-words l = length l.spaced - l.place
