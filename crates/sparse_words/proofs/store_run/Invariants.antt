use Rattle.std.proofs.Common.{◌≡◌, ℕ, length, slice_index}
use Rattle.std.specs.Vec.{vec_capacity}
use Rattle.sparse_words.proofs.Runs.{written}
use Rattle.sparse_words.proofs.store_run.Given as goal

abbrev pub invariant-loop-place : goal.invariant-loop-place
invariant-loop-place l =
    (length l.words.items ≡ length l.initial.words.items) × ((vec_capacity l.words ≡ vec_capacity l.initial.words) × ((k : ℕ) → slice_index l.words.items k ≡ written l.start l.place l.word l.initial.words.items k))
