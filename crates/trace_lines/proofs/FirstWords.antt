-- The first word of a text, byte by byte.
use Rattle.std.proofs.Common.{◌≡◌, ℕ, suc, ◌-◌, ◌<◌, ◌≤◌, List, [], ◌∷◌, length, take, drop, Some, None, Ok, Err, Bool, true, false, eqb, refl, sym, ap, ◌∙◌, arith}
use Rattle.std.specs.Char.{digit_value}
use Rattle.std.proofs.lemmas.List.{take_all}
use Rattle.std.proofs.lemmas.Bool.{le-ltb, eqb-true}
use Rattle.trace_lines.specs.Steps.{bad_line}
use Rattle.trace_lines.specs.Numbers.{numeral_after, number_of, word_of, word_len}
use Rattle.trace_lines.specs.Words.{spaced_words, next_word, next_number}
use Rattle.trace_lines.proofs.Digits.{stops, goes_on}
use Rattle.trace_lines.proofs.Splits.{word_first}

-- a space is no digit
space_is_none : (base n : ℕ) → base ≤ 16 → numeral_after base n (32 ∷ []) ≡ None
space_is_none base n small = rw (le-ltb (digit_value 32) base (omega (arith, small))) refl

decided : (b : Bool) (c : ℕ) → eqb c 32 ≡ b → (c ≡ 32 → ⊥) → b ≡ false
decided true c e other = absurd (other (eqb-true c 32 e))
decided false c e other = refl

no_space : (base n c k : ℕ) → base ≤ 16 → numeral_after base n (c ∷ []) ≡ Some k → c ≡ 32 → ⊥
no_space base n c k small e same =
    let none : numeral_after base n (c ∷ []) ≡ None = ap (λ (d : ℕ). numeral_after base n (d ∷ [])) same ∙ space_is_none base n small in
    let both : None ≡ Some k = sym none ∙ e in absurd cc

word_step : (c : ℕ) (cs : List ℕ) → eqb c 32 ≡ false → (word_of (c ∷ cs) ≡ c ∷ word_of cs) × (word_len (c ∷ cs) ≡ suc (word_len cs))
word_step c cs e =
    let len : word_len (c ∷ cs) ≡ suc (word_len cs) = rw e (omega arith) in
    (ap (λ (k : ℕ). take k (c ∷ cs)) len, len)

pub stopped : (base n c : ℕ) (cs : List ℕ) → 0 < base → (c ≡ 32 → ⊥) → numeral_after base n (c ∷ []) ≡ None → numeral_after base n (word_of (c ∷ cs)) ≡ None
stopped base n c cs pos other e = ap (λ s. numeral_after base n s) (word_step c cs (decided (eqb c 32) c refl other)).0 ∙ stops base n c (word_of cs) pos e

pub passed : (base n c k : ℕ) (cs : List ℕ) → base ≤ 16 → numeral_after base n (c ∷ []) ≡ Some k → (numeral_after base k (word_of cs) ≡ numeral_after base n (word_of (c ∷ cs))) × (word_len (c ∷ cs) ≡ suc (word_len cs))
passed base n c k cs small e =
    let step = word_step c cs (decided (eqb c 32) c refl (no_space base n c k small e)) in
    (goes_on base n c k (word_of cs) e ∙ ap (λ s. numeral_after base n s) (sym step.0), step.1)

-- a slice of all but the first
pub tail_is : (rest : List ℕ) → take (length rest - 1) (drop 1 rest) ≡ drop 1 rest
tail_is [] = take_all (length {A = ℕ} [] - 1) [] (omega arith)
tail_is (c ∷ cs) = take_all (length (c ∷ cs) - 1) cs (omega arith)

-- the number at the front of words that have a space before each
pub no_number_at : (rest : List ℕ) → length rest < 1 → next_number (spaced_words rest) ≡ Err bad_line
unfolding next_number next_word
no_number_at [] less = refl
no_number_at (c ∷ cs) less = absurd (omega (arith, less))

pub no_number_spelled : (rest : List ℕ) → 1 ≤ length rest → number_of (word_of (drop 1 rest)) ≡ None → next_number (spaced_words rest) ≡ Err bad_line
unfolding next_number next_word
no_number_spelled [] some e = absurd (omega (arith, some))
no_number_spelled (c ∷ cs) some e = rw (word_first cs, e) refl

pub number_spelled : (rest : List ℕ) (n : ℕ) → 1 ≤ length rest → number_of (word_of (drop 1 rest)) ≡ Some n → next_number (spaced_words rest) ≡ Ok (n, spaced_words (drop (word_len (drop 1 rest)) (drop 1 rest)))
unfolding next_number next_word
number_spelled [] n some e = absurd (omega (arith, some))
number_spelled (c ∷ cs) n some e = rw (word_first cs, e) refl
