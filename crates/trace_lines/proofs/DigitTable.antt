-- The table of digits, held against the definition at each of the 256 bytes.
use Rattle.std.proofs.Common.{◌≡◌, ℕ, zero, suc, ◌<◌, ◌≤◌, Bool, true, false, cond, nat_eq, get_or, List, refl, arith, inl, inr}
use Rattle.std.specs.Prelude.{◌&&◌, nat_le}
use Rattle.std.specs.Char.{digit_value}
use Rattle.std.proofs.lemmas.Bool.{cases_eq, eqb-true}
use Rattle.trace_lines.specs.Numbers.{is_digit}

-- a number of the table is right for a byte
abbrev right : List ℕ → ℕ → Bool
right table b = cond (is_digit 16 b) (nat_eq (get_or table b 0) (digit_value b)) (nat_le 16 (get_or table b 0))

unfoldable pub right_below : List ℕ → ℕ → Bool
right_below table zero = true
right_below table (suc n) = right table n && right_below table n

pub both_of : (x rest : Bool) → (x && rest) ≡ true → (x ≡ true) × (rest ≡ true)
both_of true rest h = (refl, h)
both_of false rest h = absurd cc

right_at : (table : List ℕ) (n : ℕ) → right_below table n ≡ true → (b : ℕ) → b < n → right table b ≡ true
unfolding right_below
right_at table zero h b lt = absurd (omega arith)
right_at table (suc n) h b lt =
    let both = both_of (right table n) (right_below table n) h in
    elim (cases_eq b n) [ inl same ↦ rw same both.0 | inr other ↦ right_at table n both.1 b (omega arith) ]

some_of : (d : Bool) (v w : ℕ) → cond d (nat_eq v w) (nat_le 16 v) ≡ true → d ≡ true → v ≡ w
some_of true v w h is = eqb-true v w h
some_of false v w h is = absurd cc

none_of : (d : Bool) (v w : ℕ) → cond d (nat_eq v w) (nat_le 16 v) ≡ true → d ≡ false → 16 ≤ v
none_of true v w h is = absurd cc
none_of false v w h is = grind (arith)

pub digit_there : (table : List ℕ) → right_below table 256 ≡ true → (b : ℕ) → b < 256 → is_digit 16 b ≡ true → get_or table b 0 ≡ digit_value b
digit_there table h b lt is = some_of _ _ _ (right_at table 256 h b lt) is

pub no_digit_there : (table : List ℕ) → right_below table 256 ≡ true → (b : ℕ) → b < 256 → is_digit 16 b ≡ false → 16 ≤ get_or table b 0
no_digit_there table h b lt is = none_of _ _ _ (right_at table 256 h b lt) is
