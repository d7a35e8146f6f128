-- Decimal text is a word, and is read as its number.
use Rattle.std.proofs.Common.{◌≡◌, ℕ, suc, zero, ◌^◌, ◌<◌, List, [], ◌∷◌, length, get_or, Some, Bool, true, false, eqb, ltb, refl, ap, subst, arith, inl, inr}
use Rattle.std.specs.Prelude.{decimal, codes}
use Rattle.std.specs.Char.{digit_value}
use Rattle.std.specs.List.{list_all}
use Rattle.std.specs.Str.{bytes_eq}
use Rattle.std.specs.Str.Parse.{AllDigits, digits_value}
use Rattle.std.proofs.lemmas.Bool.{lt-ltb, ne_eqb, cases_lt}
use Rattle.std.proofs.lemmas.Bool.Decides.{nat_tests}
use Rattle.std.proofs.lemmas.Slice.Eq.{bytes_eq-Decides}
use Rattle.std.proofs.lemmas.List.{get_or_past}
use Rattle.std.proofs.lemmas.Fmt.{decimal_is_IsNumeral, decimal_digit, first_decimal}
use Rattle.std.proofs.lemmas.Str.Parse.{digit_from_value, digit_at}
use Rattle.trace_lines.specs.Numbers.{is_digit, numeral_after, is_proper, numeral, number_of}
use Rattle.trace_lines.specs.Words.{is_separator}
use Rattle.xp_words.proofs.Shared.{and_second_false as not_both}

abbrev pub is_word : List ℕ → Bool
is_word w = list_all (λ b. ltb 32 b) w

digit_again : (c : ℕ) → digit_value c < 10 → is_digit 10 c ≡ true
digit_again c small =
    let range = digit_from_value c small in
    rw (lt-ltb (digit_value c) 10 small) (grind (arith, nat_tests, range.0, range.1))

digits_again : (ds : List ℕ) → AllDigits 10 ds → list_all (is_digit 10) ds ≡ true
digits_again [] h = refl
digits_again (c ∷ cs) h = rw (digit_again c h.0, digits_again cs h.1) refl

digits_are_word : (ds : List ℕ) → AllDigits 10 ds → is_word ds ≡ true
digits_are_word [] h = refl
digits_are_word (c ∷ cs) h = rw (lt-ltb 32 c (omega (arith, (digit_from_value c h.0).0)), digits_are_word cs h.1) refl

pub decimal_is_word : (n : ℕ) → n < 2 ^ 64 → is_word (decimal n) ≡ true
decimal_is_word n small = digits_are_word (decimal n) (decimal_is_IsNumeral n small).0.1

not_separator : (w : List ℕ) (b : Bool) → bytes_eq w (codes ";") ≡ b → AllDigits 10 w → b ≡ false
not_separator w true e h =
    let same : w ≡ codes ";" = (bytes_eq-Decides w (codes ";")).0 e in
    let digits : AllDigits 10 (codes ";") = subst (AllDigits 10) same h in
    absurd (omega (arith, digits.0))
not_separator w false e h = refl

pub decimal_no_separator : (n : ℕ) → n < 2 ^ 64 → is_separator (decimal n) ≡ false
decimal_no_separator n small = not_separator (decimal n) _ refl (decimal_is_IsNumeral n small).0.1

proper_from : (ds : List ℕ) → 48 < get_or ds 0 0 → is_proper ds ≡ true
proper_from [] lt = absurd (omega (arith, lt))
proper_from (c ∷ []) lt = refl
proper_from (c ∷ d ∷ cs) lt = rw (ne_eqb c 48 (λ e. omega (arith, e, lt))) refl

proper : (n : ℕ) → n < 2 ^ 64 → is_proper (decimal n) ≡ true
proper zero small = ap is_proper (decimal_digit 0 (omega arith))
proper (suc n) small = proper_from (decimal (suc n)) (first_decimal (suc n) (omega arith) small)

no_x : (n i : ℕ) → n < 2 ^ 64 → get_or (decimal n) i 0 ≡ 120 → ⊥
no_x n i small e =
    elim (cases_lt i (length (decimal n))) [
      | inl lt ↦ omega (arith, e, (digit_at (decimal n) i (decimal_is_IsNumeral n small).0.1 lt).1)
      | inr le ↦ omega (arith, e, get_or_past (decimal n) i 0 le)
    ]

numeral_again : (ds : List ℕ) (n : ℕ) → n < 2 ^ 64 → AllDigits 10 ds → digits_value 10 ds ≡ n → numeral_after 10 0 ds ≡ Some n
numeral_again ds n small digits e = rw (e, digits_again ds digits, lt-ltb n (2 ^ 64) small) refl

pub number_back : (n : ℕ) → n < 2 ^ 64 → number_of (decimal n) ≡ Some n
unfolding number_of numeral
number_back n small =
    let plain = not_both (eqb (get_or (decimal n) 0 0) 48) (eqb (get_or (decimal n) 1 0) 120) (ne_eqb (get_or (decimal n) 1 0) 120 (no_x n 1 small)) in
    let own = decimal_is_IsNumeral n small in
    rw (plain, proper n small) (numeral_again (decimal n) n small own.0.1 own.1)
