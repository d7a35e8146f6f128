-- How the words are kept: each chunk of 32 words is a block of the store. Chunks that hold nothing but zeros share block 0.
use Rattle.std.specs.Prelude.{◌≡◌, ℕ, ◌+◌, ◌*◌, ◌/◌, ◌%◌, ◌^◌, ◌<◌, ◌≤◌, ◌&&◌, nat_lt, nat_le, nat_eq, Bool, List, length, map, count_by, slice_index}
use Rattle.std.specs.List.{range_with_len}

-- word i of chunk c
abbrev pub kept_at : List ℕ → List ℕ → ℕ → ℕ → ℕ
kept_at chunks store c i = slice_index store (32 * slice_index chunks c + i)

unfoldable pub kept_words : ℕ → List ℕ → List ℕ → List ℕ
kept_words count chunks store = map (λ k. kept_at chunks store (k / 32) (k % 32)) (range_with_len 0 count)

-- whether word j of chunk d is one of so many of chunk c from the first on
abbrev pub in_run : ℕ → ℕ → ℕ → ℕ → ℕ → Bool
in_run c first count d j = nat_eq d c && (nat_le first j && nat_lt j (first + count))

-- how many chunks have a block of their own
unfoldable pub used : List ℕ → ℕ
used chunks = count_by (nat_lt 0) chunks

-- block 0 holds nothing but zeros, and each other one is one chunk's own
pub record IsStore (chunks store : List ℕ) (capacity : ℕ) : Type 0 where
  pub whole : length store ≡ 32 * (used chunks + 1)
  pub room : 32 * (length chunks + 1) ≤ capacity
  pub zeros : (i : ℕ) → i < 32 → slice_index store i ≡ 0
  pub below : (c : ℕ) → slice_index chunks c ≤ used chunks
  pub apart : (c d : ℕ) → 0 < slice_index chunks c → slice_index chunks c ≡ slice_index chunks d → c ≡ d

pub record IsSparse (count : ℕ) (chunks store : List ℕ) (capacity : ℕ) : Type 0 where
  pub shape : length chunks ≡ count / 32 + 1
  pub few : count < 2 ^ 32
  pub own : IsStore chunks store capacity
