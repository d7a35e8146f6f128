use Rattle.std.proofs.Common.{◌≡◌, ℕ, ◌<◌, ◌||◌, false, length, slice_index_or}
use Rattle.machine_draw.specs.Named.{words_name}
use Rattle.machine_draw.proofs.named.mark_words.Given as goal

abbrev pub invariant-loop-index : goal.invariant-loop-index
invariant-loop-index l =
    (f : ℕ) → f < length l.initial.named → slice_index_or l.named f false ≡ (slice_index_or l.initial.named f false || words_name l.image l.vcpu l.index f)
