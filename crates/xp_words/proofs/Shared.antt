-- Lemmas that several crates above cite.
use Rattle.std.proofs.Common.{◌≡◌, not, Bool, true, false, refl, ℕ, ◌+◌, ◌*◌, arith, ◌<◌, nat_lt, ◌≤◌, ◌&&◌, ◌==◌, if◌then◌else◌, ◌≢◌, sym}
use Rattle.std.proofs.lemmas.Bool.Decides.{nat_tests}

pub not_true : (b : Bool) → not b ≡ true → b ≡ false
not_true true e = absurd (cc)
not_true false e = refl

pub one_more_times : (k n : ℕ) → (k + 1) * n ≡ k * n + n
one_more_times k n = grind arith

pub lt_true : (c w : ℕ) → c < w → nat_lt c w ≡ true
lt_true c w l = grind (arith, nat_tests)

pub lt_false : (k c : ℕ) → c ≤ k → nat_lt k c ≡ false
lt_false k c high = grind (arith, nat_tests)

pub and_true : (a b : Bool) → a ≡ true → b ≡ true → (a && b) ≡ true
and_true a b x y = rw (x, y) refl

pub and_first_false : (a b : Bool) → a ≡ false → (a && b) ≡ false
and_first_false a b x = rw x refl

pub and_second_false : (a b : Bool) → b ≡ false → (a && b) ≡ false
and_second_false true b x = x
and_second_false false b x = refl

pub eq_one : (n : ℕ) → (n == 1) ≡ true → n ≡ 1
eq_one n is = grind (arith, nat_tests)

pub if_or_zero : (b : Bool) (n : ℕ) → (if b then n else 0) ≤ n
if_or_zero true n = omega arith
if_or_zero false n = omega arith

pub above_zero : (c : ℕ) → (c == 0) ≡ false → 0 < c
above_zero c off = grind (arith, nat_tests)

pub eq_false : (x w : ℕ) → x ≢ w → (x == w) ≡ false
eq_false x w e = grind (arith, nat_tests)

pub same_truth : (a b : Bool) → (a ≡ true → b ≡ true) → (b ≡ true → a ≡ true) → a ≡ b
same_truth true b there back = sym (there refl)
same_truth false true there back = back refl
same_truth false false there back = refl
