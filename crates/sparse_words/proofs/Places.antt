-- The list of all words.
use Rattle.std.proofs.Common.{◌≡◌, ℕ, ◌+◌, ◌*◌, ◌/◌, ◌%◌, ◌<◌, ◌≤◌, ◌&&◌, nat_lt, nat_le, true, false, List, length, replicate, set, slice_index, if◌then◌else◌, sym, ◌∙◌, ap, arith, inl, inr, get_or-set_same}
use Rattle.std.proofs.Math.ListN.{length-set, length-replicate}
use Rattle.std.proofs.lemmas.List.{get_or-set_other, get_or-replicate, get_or_past}
use Rattle.std.proofs.lemmas.List.FromFn.{length-map-range_with_len, get_or-map-range_with_len}
use Rattle.std.proofs.lemmas.Grind.{same_number_lists}
use Rattle.std.proofs.lemmas.Bool.{cases_eq, cases_lt}
use Rattle.std.proofs.lemmas.Bool.Decides.{nat_tests}
use Rattle.sparse_words.specs.Kept.{kept_at, kept_words, in_run}
use Rattle.sparse_words.proofs.Runs.{written}

pub length_words : (count : ℕ) (chunks store : List ℕ) → length (kept_words count chunks store) ≡ count
unfolding kept_words
length_words count chunks store = length-map-range_with_len (λ k. kept_at chunks store (k / 32) (k % 32)) 0 count

pub word_at : (count : ℕ) (chunks store : List ℕ) (k : ℕ) → k < count → slice_index (kept_words count chunks store) k ≡ kept_at chunks store (k / 32) (k % 32)
unfolding kept_words
word_at count chunks store k lt = get_or-map-range_with_len (λ k. kept_at chunks store (k / 32) (k % 32)) 0 count k k 0 lt (omega arith)

word_past : (count : ℕ) (chunks store : List ℕ) (k : ℕ) → count ≤ k → slice_index (kept_words count chunks store) k ≡ 0
word_past count chunks store k le = get_or_past (kept_words count chunks store) k 0 (let e = length_words count chunks store in omega arith)

pub word_found : (count : ℕ) (chunks store words : List ℕ) (p : ℕ) → kept_words count chunks store ≡ words → p < length words → slice_index words p ≡ kept_at chunks store (p / 32) (p % 32)
word_found count chunks store words p is lt =
    let long : length words ≡ count = ap length (sym is) ∙ length_words count chunks store in
    ap (λ (ws : List ℕ). slice_index ws p) (sym is) ∙ word_at count chunks store p (omega arith)

-- words that read so are the words with one set
one_set : (old now : List ℕ) (p v : ℕ) → length now ≡ length old → p < length old → ((k : ℕ) → slice_index now k ≡ written p (p + 1) v old k) → now ≡ set old p v
one_set old now p v long lt is =
    same_number_lists now (set old p v) (long ∙ sym (length-set old p v)) (λ k l.
    elim (cases_eq k p) [
      | inl same ↦
          let on : nat_le p k && nat_lt k (p + 1) ≡ true = grind (arith, nat_tests) in
          rw on at (is k) ∙ rw same (sym (get_or-set_same old p v 0 lt))
      | inr other ↦
          let off : nat_le p k && nat_lt k (p + 1) ≡ false = grind (arith, nat_tests) in
          rw off at (is k) ∙ sym (get_or-set_other old p k v 0 other)
    ])

-- ---- words of chunks are set
module _ (count : ℕ) (chunks store chunks2 store2 : List ℕ) where
  pub same_length : length (kept_words count chunks2 store2) ≡ length (kept_words count chunks store)
  same_length = length_words count chunks2 store2 ∙ sym (length_words count chunks store)

  pub run_stored : (a b v : ℕ) → b ≤ count → ((c i : ℕ) → i < 32 → kept_at chunks2 store2 c i ≡ (if nat_le a (32 * c + i) && nat_lt (32 * c + i) b then v else kept_at chunks store c i)) → (k : ℕ) → slice_index (kept_words count chunks2 store2) k ≡ written a b v (kept_words count chunks store) k
  run_stored a b v inside is k =
      elim (cases_lt k count) [
        | inl low ↦
            let place : 32 * (k / 32) + k % 32 ≡ k = omega arith in
            word_at count chunks2 store2 k low ∙ rw place at (is (k / 32) (k % 32) (omega arith))
            ∙ ap (λ w. if nat_le a k && nat_lt k b then v else w) (sym (word_at count chunks store k low))
        | inr past ↦
            let off : nat_le a k && nat_lt k b ≡ false = grind (arith, nat_tests) in
            rw off (word_past count chunks2 store2 k past ∙ sym (word_past count chunks store k past))
      ]

  pub word_set : (p v : ℕ) → p < count → ((c i : ℕ) → i < 32 → kept_at chunks2 store2 c i ≡ (if in_run (p / 32) (p % 32) 1 c i then v else kept_at chunks store c i)) → kept_words count chunks2 store2 ≡ set (kept_words count chunks store) p v
  word_set p v lt is =
      let long = length_words count chunks store in
      one_set (kept_words count chunks store) (kept_words count chunks2 store2) p v same_length (omega arith) (run_stored p (p + 1) v (omega arith) (λ c i l.
      let same : in_run (p / 32) (p % 32) 1 c i ≡ nat_le p (32 * c + i) && nat_lt (32 * c + i) (p + 1) =
      elim (cases_eq c (p / 32)) [
        | inl one ↦ grind (arith, nat_tests)
        | inr two ↦ grind (arith, nat_tests)
      ] in
      rw same at (is c i l)))

-- ---- where nothing was set
pub length_zeros : (n : ℕ) → length {A = ℕ} (replicate n 0) ≡ n
length_zeros n = length-replicate n 0

pub zeros : (n k : ℕ) → slice_index (replicate n 0) k ≡ 0
zeros n k =
    elim (cases_lt k n) [
      | inl low ↦ get_or-replicate n k 0 0 low
      | inr past ↦ get_or_past (replicate n 0) k 0 (omega (arith, length_zeros n))
    ]

pub none_set : (count chunks store : ℕ) → kept_words count (replicate chunks 0) (replicate store 0) ≡ replicate count 0
none_set count chunks store =
    let long = length_words count (replicate chunks 0) (replicate store 0) in
    let all = length_zeros count in
    same_number_lists (kept_words count (replicate chunks 0) (replicate store 0)) (replicate count 0) (omega arith) (λ k l.
    word_at count (replicate chunks 0) (replicate store 0) k (omega arith) ∙ zeros store _ ∙ sym (zeros count k))
