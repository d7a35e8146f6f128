use Rattle.std.proofs.Common.{ℕ, ◌<◌}
use Rattle.xp_words.specs.Places.{sizes_of, memory}
use Rattle.walk_audit.specs.Burials.{HasMark}
use Rattle.walk_audit.proofs.dead.leaves_frame.Given as goal

abbrev pub invariant-loop-frame : goal.invariant-loop-frame
invariant-loop-frame l = (f : ℕ) → f < l.frame → HasMark (memory (sizes_of l.layout) l.words) l.domain f → ⊥
