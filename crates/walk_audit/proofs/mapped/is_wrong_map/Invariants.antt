use Rattle.std.proofs.Common.{◌≡◌, ℕ, ◌<◌, ◌+◌, ◌*◌}
use Rattle.xp_words.specs.Entries.{is_bit}
use Rattle.xp_words.specs.Places.{sizes_of, memory}
use Rattle.walk_audit.specs.Breaks.{is_free_frame}
use Rattle.walk_audit.proofs.mapped.is_wrong_map.Given as goal

abbrev pub invariant-loop-bit : goal.invariant-loop-bit
invariant-loop-bit l = (k : ℕ) → k < l.bit → is_bit k l.bits ≡ is_free_frame l.layout (memory (sizes_of l.layout) l.words) (64 * l.word + k)
