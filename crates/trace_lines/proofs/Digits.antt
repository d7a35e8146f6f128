-- Digits that are read from the left.
use Rattle.std.proofs.Common.{◌≡◌, ℕ, ◌+◌, ◌*◌, ◌^◌, ◌<◌, ◌≤◌, List, [], ◌∷◌, Some, None, Bool, true, false, cond, ltb, refl, ap, arith}
use Rattle.std.specs.Prelude.{◌&&◌}
use Rattle.std.specs.Char.{digit_value}
use Rattle.std.specs.List.{list_all}
use Rattle.std.specs.Str.Parse.{digits_value_after}
use Rattle.std.proofs.lemmas.Bool.{le-ltb, ltb-false}
use Rattle.std.proofs.Math.Nat.{mul-le-mul_left}
use Rattle.trace_lines.specs.Numbers.{is_digit, numeral_after}

grows : (base n d : ℕ) → 0 < base → 2 ^ 64 ≤ n → 2 ^ 64 ≤ n * base + d
grows base n d pos big = let one : 1 ≤ base = omega arith in omega (arith, mul-le-mul_left n one)

-- numbers only grow as digits are read
stays_big : (base n : ℕ) (cs : List ℕ) → 0 < base → 2 ^ 64 ≤ n → 2 ^ 64 ≤ digits_value_after base n cs
stays_big base n [] pos big = big
stays_big base n (c ∷ cs) pos big = stays_big base (n * base + digit_value c) cs pos (grows base n (digit_value c) pos big)

no_number : (a b : Bool) (k : ℕ) → b ≡ false → cond (a && b) (Some k) None ≡ None
no_number true b k e = rw e refl
no_number false b k e = refl

too_big : (base n : ℕ) (cs : List ℕ) → 0 < base → 2 ^ 64 ≤ n → numeral_after base n cs ≡ None
too_big base n cs pos big = no_number (list_all (is_digit base) cs) _ _ (le-ltb _ (2 ^ 64) (stays_big base n cs pos big))

-- where a test gives nothing, it failed
pub test_failed : (b : Bool) (k : ℕ) → cond b (Some k) None ≡ None → b ≡ false
test_failed true k e = absurd cc
test_failed false k e = refl

stops_at : (b : Bool) (base m : ℕ) (cs : List ℕ) → 0 < base → cond ((b && true) && ltb m (2 ^ 64)) (Some m) None ≡ None
    → cond ((b && list_all (is_digit base) cs) && ltb (digits_value_after base m cs) (2 ^ 64)) (Some (digits_value_after base m cs)) None ≡ None
stops_at true base m cs pos e = too_big base m cs pos (ltb-false _ _ (test_failed (ltb m (2 ^ 64)) m e))
stops_at false base m cs pos e = refl

-- where a digit cannot be read, nothing behind it helps
pub stops : (base n c : ℕ) (cs : List ℕ) → 0 < base → numeral_after base n (c ∷ []) ≡ None → numeral_after base n (c ∷ cs) ≡ None
stops base n c cs pos e = stops_at (is_digit base c) base (n * base + digit_value c) cs pos e

goes_on_at : (a b : Bool) (base m k : ℕ) (cs : List ℕ) → cond ((a && true) && b) (Some m) None ≡ Some k
    → numeral_after base k cs ≡ cond ((a && list_all (is_digit base) cs) && ltb (digits_value_after base m cs) (2 ^ 64)) (Some (digits_value_after base m cs)) None
goes_on_at true true base m k cs e = let same : k ≡ m = cc in ap (λ (j : ℕ). numeral_after base j cs) same
goes_on_at true false base m k cs e = absurd cc
goes_on_at false b base m k cs e = absurd cc

pub goes_on : (base n c k : ℕ) (cs : List ℕ) → numeral_after base n (c ∷ []) ≡ Some k → numeral_after base k cs ≡ numeral_after base n (c ∷ cs)
goes_on base n c k cs e = goes_on_at (is_digit base c) (ltb (n * base + digit_value c) (2 ^ 64)) base (n * base + digit_value c) k cs e
