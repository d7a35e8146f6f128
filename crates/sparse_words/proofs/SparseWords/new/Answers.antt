use Rattle.std.proofs.Common.{◌≡◌, ℕ, List, ◌<◌, ◌+◌, ◌*◌, ◌/◌, ◌^◌, ◌≤◌, ◌∙◌, ap, arith, replicate}
use Rattle.std.specs.Vec.{vec_capacity}
use Rattle.sparse_words.specs.Kept.{IsSparse}
use Rattle.sparse_words.proofs.Places.{none_set, length_zeros}
use Rattle.sparse_words.proofs.Blocks.{no_blocks, begun}
use Rattle.sparse_words.proofs.SparseWords.new.Goals as goal

none_kept : (count n room : ℕ) (chunks store : List ℕ) → n ≡ count / 32 + 1 → count < 2 ^ 32 → 32 * (n + 1) ≤ room → chunks ≡ replicate n 0 → store ≡ replicate 32 0 → IsSparse count chunks store room
none_kept count n room chunks store shape few big is_chunks is_store =
    let long = length_zeros n in
    rw (is_chunks, is_store) (record { shape = omega arith; few = few; own = no_blocks n room big })

pub invariant_of-result : goal.invariant_of-result
invariant_of-result c =
    let n = c.words-count.result / 32 + 1 in
    let chunks = begun c.new-chunks.result.items c.resize.new.self.items _ n 0 c.new-chunks.ensures.items c.new-chunks.ensures.len c.in_ok-resize.ensures.items in
    let store = begun c.in_ok-store.store.items c.resize-2.new.self.items _ 32 0 c.in_ok-store.ensures.items c.in_ok-store.ensures.len c.in_ok-resize-2.ensures.items in
    let room = c.in_ok-store.ensures.capacity in
    let kept = c.resize-2.ensures.capacity in
    none_kept c.words-count.result n (vec_capacity c.resize-2.new.self) c.resize.new.self.items c.resize-2.new.self.items (omega arith) (omega arith) (omega arith) chunks store

pub returns : goal.returns
returns c =
    let n = c.words-count.result / 32 + 1 in
    let chunks = begun c.new-chunks.result.items c.resize.new.self.items _ n 0 c.new-chunks.ensures.items c.new-chunks.ensures.len c.in_ok-resize.ensures.items in
    let store = begun c.in_ok-store.store.items c.resize-2.new.self.items _ 32 0 c.in_ok-store.ensures.items c.in_ok-store.ensures.len c.in_ok-resize-2.ensures.items in
    rw (chunks, store) (none_set c.words-count.result n 32) ∙ ap (λ k. replicate {A = ℕ} k 0) c.words-count.ensures.words
