-- A line that is split at its spaces, word by word.
use Rattle.std.proofs.Common.{◌≡◌, ℕ, ◌+◌, ◌<◌, ◌≤◌, List, [], ◌∷◌, length, take, drop, Some, None, Bool, true, false, cond, eqb, get_or, add-one, drop-cons, refl, sym, ap, ◌∙◌, arith, inl, inr, drop_of_length-le}
use Rattle.std.specs.List.{slice_split, position, position_or_len}
use Rattle.std.proofs.lemmas.List.{take_all}
use Rattle.std.proofs.lemmas.List.Splits.{slice_split_first, slice_split_none}
use Rattle.std.proofs.lemmas.List.Sums.{fails_before_first, prefix_len-le-length}
use Rattle.std.proofs.lemmas.Bool.{cases_lt, ltb-false}
use Rattle.trace_lines.specs.Words.{is_nil, words_of, spaced_words}
use Rattle.trace_lines.proofs.Digits.{test_failed}

abbrev pub len_before : ℕ → List ℕ → ℕ
len_before byte bs = position_or_len (λ b. eqb b byte) bs

place_is : (b : Bool) (k i : ℕ) → cond b (Some k) None ≡ Some i → i ≡ k
place_is true k i e = cc
place_is false k i e = absurd cc

pub len_before_within : (byte : ℕ) (bs : List ℕ) → len_before byte bs ≤ length bs
len_before_within byte bs = prefix_len-le-length _ bs

pub len_before_some : (byte : ℕ) (bs : List ℕ) (i : ℕ) → Some i ≡ position (λ b. eqb b byte) bs → i ≡ len_before byte bs
len_before_some byte bs i e = place_is _ (len_before byte bs) i (sym e)

pub len_before_none : (byte : ℕ) (bs : List ℕ) → None ≡ position (λ b. eqb b byte) bs → length bs ≡ len_before byte bs
len_before_none byte bs e =
    let past : length bs ≤ len_before byte bs = ltb-false _ _ (test_failed _ (len_before byte bs) (sym e)) in
    omega (arith, past, len_before_within byte bs)

pub split_here : (byte : ℕ) (bs : List ℕ) → len_before byte bs < length bs → slice_split (λ b. eqb b byte) bs ≡ take (len_before byte bs) bs ∷ slice_split (λ b. eqb b byte) (drop (len_before byte bs + 1) bs)
split_here byte bs lt = slice_split_first (λ b. eqb b byte) bs 0 lt

pub split_nowhere : (byte : ℕ) (bs : List ℕ) → length bs ≤ len_before byte bs → slice_split (λ b. eqb b byte) bs ≡ bs ∷ []
split_nowhere byte bs le = slice_split_none (λ b. eqb b byte) bs (λ k d lt. fails_before_first (λ b. eqb b byte) bs k d (omega arith))

pub opened : (bs : List ℕ) (i : ℕ) → i < length bs → drop i bs ≡ get_or bs i 0 ∷ drop (i + 1) bs
opened bs i lt = rw (add-one, drop-cons bs i 0) refl

-- the first word of a line, and the words behind it
pub word_first : (bs : List ℕ) → words_of bs ≡ take (len_before 32 bs) bs ∷ spaced_words (drop (len_before 32 bs) bs)
word_first bs =
    elim (cases_lt (len_before 32 bs) (length bs)) [
      | inl lt ↦ split_here 32 bs lt ∙ ap (λ (ws : List (List ℕ)). take (len_before 32 bs) bs ∷ ws) (sym (ap spaced_words (opened bs (len_before 32 bs) lt)))
      | inr le ↦ split_nowhere 32 bs le ∙ rw (take_all _ bs le, drop_of_length-le bs le) refl
    ]

pub split_is_cons : (bs : List ℕ) → is_nil (words_of bs) ≡ false
split_is_cons bs = ap is_nil (word_first bs)
