-- What a new block makes of the store.
use Rattle.std.proofs.Common.{◌≡◌, ◌≢◌, ℕ, ◌+◌, ◌-◌, ◌*◌, ◌<◌, ◌≤◌, ◌++◌, nat_lt, nat_eq, Bool, true, false, List, [], length, replicate, set, slice_index, if◌then◌else◌, refl, ◌∙◌, ap, arith, inl, inr, get_or-set_same, cond, count_by, length-append, take}
use Rattle.std.proofs.Math.ListN.{length-set, length-replicate}
use Rattle.std.proofs.lemmas.List.{get_or-set_other, get_or_append_left, get_or-append_right, get_or-replicate, take_all}
use Rattle.std.proofs.lemmas.List.Sums.{sum_by-set, count_by-le-length}
use Rattle.std.proofs.lemmas.List.Folds.{sum_by-replicate}
use Rattle.std.proofs.lemmas.Bool.{cases_eq}
use Rattle.std.proofs.lemmas.Bool.Decides.{nat_tests}
use Rattle.sparse_words.specs.Kept.{kept_at, used, IsStore}
use Rattle.sparse_words.proofs.Places.{zeros, length_zeros}

pub used_more : (chunks : List ℕ) (c b : ℕ) → c < length chunks → slice_index chunks c ≡ 0 → 0 < b → used (set chunks c b) ≡ used chunks + 1
unfolding used
used_more chunks c b lt none pos =
    let on : nat_lt 0 b ≡ true = grind (arith, nat_tests) in
    let moved : used (set chunks c b) + 0 ≡ used chunks + 1 = rw (on, none) at (sum_by-set (λ x. if nat_lt 0 x then 1 else 0) chunks c b 0 lt) in
    omega arith

-- a chunk without a block leaves room for one
pub used_lt : (chunks : List ℕ) (c : ℕ) → c < length chunks → slice_index chunks c ≡ 0 → used chunks < length chunks
unfolding used
used_lt chunks c lt none =
    let more : used (set chunks c 1) ≡ used chunks + 1 = used_more chunks c 1 lt none (omega arith) in
    let few : count_by (nat_lt 0) (set chunks c 1) ≤ length (set chunks c 1) = count_by-le-length (nat_lt 0) (set chunks c 1) in
    let long : length (set chunks c 1) ≡ length chunks = length-set chunks c 1 in
    omega arith

-- the block of a chunk, where chunk c has another
block_own : (chunks : List ℕ) (c b d : ℕ) → c < length chunks → d ≡ c → slice_index (set chunks c b) d ≡ b
block_own chunks c b d lt same = rw same (get_or-set_same chunks c b 0 lt)

block_kept : (chunks : List ℕ) (c b d : ℕ) → d ≢ c → slice_index (set chunks c b) d ≡ slice_index chunks d
block_kept chunks c b d other = get_or-set_other chunks c d b 0 other

module _ (chunks store : List ℕ) (capacity : ℕ) (is : IsStore chunks store capacity) (c : ℕ) (lt : c < length chunks) (none : slice_index chunks c ≡ 0) (v : ℕ) where
  old_word : (k : ℕ) → k < length store → slice_index (store ++ replicate 32 v) k ≡ slice_index store k
  old_word k l = get_or_append_left store (replicate 32 v) 0 k l

  new_word : (k j : ℕ) → k ≡ length store + j → j < 32 → slice_index (store ++ replicate 32 v) k ≡ v
  new_word k j e l =
      get_or-append_right store (replicate 32 v) (length store) k 0 refl (omega arith) ∙ get_or-replicate 32 (k - length store) v 0 (omega arith)

  store_more : length (store ++ replicate 32 v) ≡ length store + 32
  store_more = length-append store (replicate 32 v) ∙ ap (λ n. length store + n) (length-replicate 32 v)

  pub block_added : (more : ℕ) → capacity ≤ more → IsStore (set chunks c (used chunks + 1)) (store ++ replicate 32 v) more
  block_added more le =
      let new : used (set chunks c (used chunks + 1)) ≡ used chunks + 1 = used_more chunks c (used chunks + 1) lt none (omega arith) in
      let long : length (set chunks c (used chunks + 1)) ≡ length chunks = length-set chunks c (used chunks + 1) in
      let whole = is.whole in
      let room = is.room in
      record {
        whole = store_more ∙ omega arith;
        room = omega arith;
        zeros = λ i l. old_word i (omega arith) ∙ is.zeros i l;
        below = λ d. elim (cases_eq d c) [
          | inl same ↦ let b = block_own chunks c (used chunks + 1) d lt same in omega arith
          | inr other ↦ let b = block_kept chunks c (used chunks + 1) d other in let old = is.below d in omega arith
        ];
        apart = λ d h pos e. elim (cases_eq d c) [
          | inl first ↦ elim (cases_eq h c) [
            | inl second ↦ omega arith
            | inr other ↦
                let b = block_own chunks c (used chunks + 1) d lt first in
                let k = block_kept chunks c (used chunks + 1) h other in
                let old = is.below h in
                absurd (omega arith)
          ]
          | inr others ↦ elim (cases_eq h c) [
            | inl second ↦
                let b = block_own chunks c (used chunks + 1) h lt second in
                let k = block_kept chunks c (used chunks + 1) d others in
                let old = is.below d in
                absurd (omega arith)
            | inr other ↦
                let k = block_kept chunks c (used chunks + 1) d others in
                let m = block_kept chunks c (used chunks + 1) h other in
                is.apart d h (omega arith) (omega arith)
          ]
        ];
      }

  pub word_added : (d j : ℕ) → j < 32 → kept_at (set chunks c (used chunks + 1)) (store ++ replicate 32 v) d j ≡ (if nat_eq d c then v else kept_at chunks store d j)
  word_added d j l =
      let whole = is.whole in
      elim (cases_eq d c) [
        | inl same ↦
            let on : nat_eq d c ≡ true = grind (arith, nat_tests) in
            let b = block_own chunks c (used chunks + 1) d lt same in
            rw on (new_word (32 * slice_index (set chunks c (used chunks + 1)) d + j) j (omega arith) l)
        | inr other ↦
            let off : nat_eq d c ≡ false = grind (arith, nat_tests) in
            let b = block_kept chunks c (used chunks + 1) d other in
            let old = is.below d in
            rw (off, b) (old_word _ (omega arith))
      ]

-- the block of a chunk ends inside
pub block_inside : (chunks store : List ℕ) (capacity c i : ℕ) → IsStore chunks store capacity → i < 32 → 32 * slice_index chunks c + i < length store
block_inside chunks store capacity c i is l = let whole = is.whole in let below = is.below c in omega arith

-- ---- where no chunk has a block
used_none : (n : ℕ) → used (replicate n 0) ≡ 0
unfolding used
used_none n = sum_by-replicate (λ x. cond (nat_lt 0 x) 1 0) n 0 ∙ omega arith

pub no_blocks : (n capacity : ℕ) → 32 * (n + 1) ≤ capacity → IsStore (replicate n 0) (replicate 32 0) capacity
no_blocks n capacity room =
    let none = used_none n in
    let long = length_zeros n in
    let store = length_zeros 32 in
    record {
      whole = omega arith;
      room = omega arith;
      zeros = λ i l. zeros 32 i;
      below = λ c. let e = zeros n c in omega arith;
      apart = λ c d pos e. let z = zeros n c in absurd (omega arith);
    }

-- ---- what `resize` makes of the store
pub lengthened : (old now : List ℕ) (len n v : ℕ) (b : Bool) → length old ≡ len → b ≡ true → now ≡ (if b then take (len + n) old ++ replicate (len + n - len) v else old) → now ≡ old ++ replicate n v
lengthened old now len n v b long on is =
    let count : len + n - len ≡ n = omega arith in
    (rw (on, count) at is) ∙ ap (λ xs. xs ++ replicate n v) (take_all (len + n) old (omega arith))

pub begun : (old now : List ℕ) (len n v : ℕ) → old ≡ [] → len ≡ 0 → now ≡ take n old ++ replicate (n - len) v → now ≡ replicate n v
begun old now len n v none zero is =
    let count : n - len ≡ n = omega arith in
    let empty : take n old ≡ [] = ap (take n) none ∙ take_all n [] (omega arith) in
    rw (count, empty) at is
