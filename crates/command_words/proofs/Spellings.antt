-- Which words spell a number.
use Rattle.std.proofs.Common.{◌≡◌, ◌∙◌, ℕ, ◌^◌, ◌<◌, Bool, true, false, ◌&&◌, List, [], ◌∷◌, length, Some, None, is_some, Result, Ok, Err, eqb, ltb, leb, cond, refl, sym, ap, arith, le-leb, leb-true, lt-ltb, ltb-true, ne_eqb}
use Rattle.std.specs.Char.{digit_value}
use Rattle.std.specs.List.{list_all}
use Rattle.std.specs.Result.{result_ok}
use Rattle.std.specs.Str.Parse.{AllDigits, IsNumeral, ParsesUnsigned, digits_value, without_leading_plus}
use Rattle.std.proofs.lemmas.Str.Parse.{digit_at, digit_from_value, without_leading_plus_none}
use Rattle.trace_lines.specs.Numbers.{is_digit, is_proper, numeral}
use Rattle.trace_lines.proofs.DigitTable.{both_of as both}
use Rattle.command_words.specs.Words.{has_digits, number_within, within}

pub all_digits : (w : List ℕ) → has_digits w ≡ true → AllDigits 10 w
all_digits [] e = tt
all_digits (c ∷ cs) e =
    let parts = both (is_digit 10 c) (has_digits cs) e in
    let first = both (ltb (digit_value c) 10) _ parts.0 in
    (ltb-true (digit_value c) 10 first.0, all_digits cs parts.1)

-- a word of digits has no sign
pub unsigned : (w : List ℕ) → IsNumeral 10 w → without_leading_plus w ≡ w
unsigned w numeric = without_leading_plus_none w (λ e. omega (arith, digit_at w 0 numeric.1 numeric.0, e))

some_digit : (w : List ℕ) → is_proper w ≡ true → 0 < length w
some_digit [] e = cc
some_digit (c ∷ cs) e = omega arith

-- ---- a word, by what a parse of it gives

pub spells_none : (w : List ℕ) → (is_proper w && has_digits w) ≡ false → numeral 10 w ≡ None
unfolding numeral
spells_none w e = by (is_proper w) (has_digits w) e
  where
    by : (p d : Bool) → (p && d) ≡ false → cond p (cond (d && ltb (digits_value 10 w) (2 ^ 64)) (Some (digits_value 10 w)) None) None ≡ None
    by true true e = cc
    by true false e = refl
    by false d e = refl

by_value : (w : List ℕ) → is_proper w ≡ true → has_digits w ≡ true → numeral 10 w ≡ cond (ltb (digits_value 10 w) (2 ^ 64)) (Some (digits_value 10 w)) None
unfolding numeral
by_value w proper digits = rw (proper, digits) refl

pub parsed : {E : Type 0} (w : List ℕ) (r : Result ℕ E) → is_proper w ≡ true → has_digits w ≡ true → ParsesUnsigned 64 10 w r → result_ok r ≡ numeral 10 w
parsed {E = E} w r proper digits h = go r h ∙ sym (by_value w proper digits)
  where
    numeric : IsNumeral 10 w
    numeric = (some_digit w proper, all_digits w digits)

    go : (r : Result ℕ E) → ParsesUnsigned 64 10 w r → result_ok r ≡ cond (ltb (digits_value 10 w) (2 ^ 64)) (Some (digits_value 10 w)) None
    go (Ok n) h =
        let h = rw (unsigned w numeric) at h in
        rw (lt-ltb (digits_value 10 w) (2 ^ 64) h.0.1) (ap Some h.1)
    go (Err e) h =
        let h = rw (unsigned w numeric) at h in
        over (ltb (digits_value 10 w) (2 ^ 64)) refl h
      where
        over : (t : Bool) → ltb (digits_value 10 w) (2 ^ 64) ≡ t → (IsNumeral 10 w × (digits_value 10 w < 2 ^ 64) → ⊥) → None ≡ cond t (Some (digits_value 10 w)) None
        over true e h = absurd (h (numeric, ltb-true (digits_value 10 w) (2 ^ 64) e))
        over false e h = refl

-- ---- a word that spells a number, by the tests that `clap` makes of it

digit_tests : (w : List ℕ) → AllDigits 10 w → list_all (λ d. ltb (digit_value d) 10) w ≡ true
digit_tests [] h = refl
digit_tests (c ∷ cs) h = rw (lt-ltb (digit_value c) 10 h.0, digit_tests cs h.1) refl

pub record Spelled (low high c : ℕ) (cs : List ℕ) : Type 0 where
  pub no_minus : eqb c 45 ≡ false
  pub no_plus : eqb c 43 ≡ false
  pub some : leb 1 (length (c ∷ cs)) ≡ true
  pub digits : list_all (λ d. ltb (digit_value d) 10) (c ∷ cs) ≡ true
  pub least : leb low (digits_value 10 (c ∷ cs)) ≡ true
  pub most : leb (digits_value 10 (c ∷ cs)) high ≡ true
  pub fits : ltb (digits_value 10 (c ∷ cs)) (2 ^ 63) ≡ true
  pub all : IsNumeral 10 (c ∷ cs)
  pub is : number_within low high (c ∷ cs) ≡ Some (digits_value 10 (c ∷ cs))

pub no_word : (least most : ℕ) → is_some (number_within least most []) ≡ true → ⊥
unfolding numeral
no_word least most e = cc

tests_of : (least most : ℕ) (w : List ℕ) → is_some (number_within least most w) ≡ true → (b : Bool) → (is_proper w && has_digits w) ≡ b
    → (is_proper w ≡ true) × (has_digits w ≡ true)
tests_of least most w e true h = both _ _ h
tests_of least most w e false h = absurd (let no = sym e ∙ ap (λ o. is_some (within least most o)) (spells_none w h) in cc)

-- the number that there is, and its bounds
bounds : (least most v : ℕ) (t : Bool) → is_some (within least most (cond t (Some v) None)) ≡ true
    → (leb least v ≡ true) × (leb v most ≡ true) × (within least most (cond t (Some v) None) ≡ Some v)
bounds least most v false e = cc
bounds least most v true e = by (leb least v && leb v most) refl e
  where
    by : (b : Bool) → (leb least v && leb v most) ≡ b → is_some (cond b (Some v) None) ≡ true
        → (leb least v ≡ true) × (leb v most ≡ true) × (cond (leb least v && leb v most) (Some v) None ≡ Some v)
    by true is h = ((both _ _ is).0, (both _ _ is).1, rw is refl)
    by false is h = cc

pub spelled : (least most : ℕ) → most < 2 ^ 63 → (c : ℕ) (cs : List ℕ) → is_some (number_within least most (c ∷ cs)) ≡ true → Spelled least most c cs
spelled least most under c cs e =
    let tests = tests_of least most (c ∷ cs) e _ refl in
    let all = all_digits (c ∷ cs) tests.1 in
    let range = digit_from_value c all.0 in
    let v = digits_value 10 (c ∷ cs) in
    let value = by_value (c ∷ cs) tests.0 tests.1 in
    let b = bounds least most v (ltb v (2 ^ 64)) (sym (ap (λ o. is_some (within least most o)) value) ∙ e) in
    record {
      no_minus = ne_eqb c 45 (λ h. omega (arith, h, range.0));
      no_plus = ne_eqb c 43 (λ h. omega (arith, h, range.0));
      some = le-leb 1 (length (c ∷ cs)) (omega arith);
      digits = digit_tests (c ∷ cs) all;
      least = b.0;
      most = b.1;
      fits = lt-ltb v (2 ^ 63) (omega (arith, leb-true v most b.1));
      all = (omega arith, all);
      is = ap (within least most) value ∙ b.2;
    }
