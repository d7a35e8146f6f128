use Rattle.std.proofs.Common.{◌≡◌, ℕ, ◌<◌, ◌+◌, ◌*◌, ◌&&◌, nat_le, nat_lt, length, if◌then◌else◌}
use Rattle.std.specs.Vec.{vec_capacity}
use Rattle.sparse_words.specs.Kept.{kept_at, IsStore}
use Rattle.sparse_words.proofs.fill_places.Given as goal

abbrev pub invariant-loop-chunk : goal.invariant-loop-chunk
invariant-loop-chunk l =
    (length l.chunks.items ≡ length l.fn.chunks.items)
    × (IsStore l.chunks.items l.store.items (vec_capacity l.store)
    × ((c i : ℕ) → i < 32 → kept_at l.chunks.items l.store.items c i ≡ (if nat_lt c l.chunk && (nat_le l.start (32 * c + i) && nat_lt (32 * c + i) l.end) then l.word else kept_at l.fn.chunks.items l.fn.store.items c i)))
