-- Bits of a word that are all set.
use Rattle.std.proofs.Common.{◌≡◌, ℕ, zero, suc, ◌+◌, ◌-◌, ◌*◌, ◌/◌, ◌%◌, ◌^◌, ◌<◌, ◌⊎◌, true, refl, sym, ap, ◌∙◌, subst, inl, inr, arith}
use Rattle.std.proofs.Math.Nat.{mod-lt, mod-eq_of_lt, one-le-pow}
use Rattle.std.proofs.lemmas.Nat.{mod-pow-add, shr-shr}
use Rattle.xp_words.specs.Entries.{is_bit}
use Rattle.xp_board.proofs.PlaceTests.{equal_by}
use Rattle.xp_board.proofs.Sums.{when_eq}
use Rattle.frame_claims.specs.Found.{are_set}

below_or : (j k : ℕ) → j < suc k → (j < k) ⊎ (j ≡ k)
below_or j k l = grind arith

-- the k lowest bits of y, one more
split : (k y : ℕ) → y % 2 ^ suc k ≡ (y / 2 ^ k % 2) * 2 ^ k + y % 2 ^ k
split k y = let e : suc k ≡ 1 + k = omega arith in ap (λ i. y % 2 ^ i) e ∙ mod-pow-add y 1 k

twice : (k : ℕ) → 2 ^ suc k ≡ 2 * 2 ^ k
twice k = grind arith

power : (k : ℕ) → 0 < 2 ^ k
power k = let one = one-le-pow k 2 (omega arith) in omega (arith, one)

-- a bit times the power, and a rest below it
top_set : (b p r : ℕ) → b < 2 → r < p → b * p + r ≡ 2 * p - 1 → (b ≡ 1) × (r ≡ p - 1)
top_set zero p r low less is = absurd (let z : 0 * p ≡ 0 = omega arith in omega (arith, z, is, less))
top_set (suc zero) p r low less is = (refl, (let one : 1 * p ≡ p = omega arith in omega (arith, one, is, less)))
top_set (suc (suc b)) p r low less is = absurd (omega (arith, low))

all_of : (k y : ℕ) → y % 2 ^ k ≡ 2 ^ k - 1 → (j : ℕ) → j < k → y / 2 ^ j % 2 ≡ 1
all_of zero y is j low = absurd (omega (arith, low))
all_of (suc k) y is j low =
    let top = top_set (y / 2 ^ k % 2) (2 ^ k) (y % 2 ^ k) (mod-lt (y / 2 ^ k) (omega arith)) (mod-lt y (power k)) (sym (split k y) ∙ is ∙ ap (λ p. p - 1) (twice k)) in
    elim (below_or j k low) [ inl under ↦ all_of k y top.1 j under | inr at ↦ subst (λ i. y / 2 ^ i % 2 ≡ 1) (sym at) top.0 ]

of_all : (k y : ℕ) → ((j : ℕ) → j < k → y / 2 ^ j % 2 ≡ 1) → y % 2 ^ k ≡ 2 ^ k - 1
of_all zero y each = let low = mod-lt y (power 0) in omega (arith, low)
of_all (suc k) y each =
    let rest = of_all k y (λ j l. each j (omega (arith, l))) in
    let top = each k (omega arith) in
    let one : (y / 2 ^ k % 2) * 2 ^ k ≡ 2 ^ k = rw top (let z : 1 * 2 ^ k ≡ 2 ^ k = omega arith in z) in
    let some = power k in
    let more = twice k in
    let both = split k y in
    omega (arith, rest, one, some, more, both)

pub bits_of : (k at x : ℕ) → are_set k at x ≡ true → (j : ℕ) → j < k → is_bit (at + j) x ≡ true
bits_of k at x set j low =
    let is = equal_by (x / 2 ^ at % 2 ^ k) (2 ^ k - 1) set in
    when_eq (x / 2 ^ (at + j) % 2) 1 (ap (λ y. y % 2) (sym (shr-shr x at j)) ∙ all_of k (x / 2 ^ at) is j low)

pub set_of : (k at x : ℕ) → ((j : ℕ) → j < k → is_bit (at + j) x ≡ true) → are_set k at x ≡ true
set_of k at x each =
    when_eq (x / 2 ^ at % 2 ^ k) (2 ^ k - 1) (of_all k (x / 2 ^ at) (λ j l. ap (λ y. y % 2) (shr-shr x at j) ∙ equal_by (x / 2 ^ (at + j) % 2) 1 (each j l)))

-- a whole word
pub full_bits : (j : ℕ) → j < 64 → is_bit j (2 ^ 64 - 1) ≡ true
full_bits j low = when_eq ((2 ^ 64 - 1) / 2 ^ j % 2) 1 (all_of 64 (2 ^ 64 - 1) refl j low)

pub full_of : (x : ℕ) → x < 2 ^ 64 → ((j : ℕ) → j < 64 → is_bit j x ≡ true) → x ≡ 2 ^ 64 - 1
full_of x small each = sym (mod-eq_of_lt small) ∙ of_all 64 x (λ j l. equal_by (x / 2 ^ j % 2) 1 (each j l))
