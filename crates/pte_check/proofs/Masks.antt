-- What single bits and reserved sets say of a word.
use Rattle.std.proofs.Common.{◌≡◌, ℕ, ◌+◌, ◌/◌, ◌%◌, ◌^◌, ◌≤◌, ◌==◌, ◌||◌, not, min, max, true, false, refl, arith}
use Rattle.std.proofs.lemmas.Nat.{and_le_l, and_le_r}
use Rattle.std.proofs.lemmas.Nat.Bits.{and_high, and_pow, bit_at_and, bit_at_or, same_from_bits}
use Rattle.std.proofs.lemmas.Bool.Decides.{nat_tests}
use Rattle.std.proofs.Math.Bool.{or-false}
use Rattle.std.specs.Int.{bit_at}
use Rattle.std.specs.Int.Bits.{or_add_and}
use Rattle.std.specs.Int.RustNames.{bit_and, bit_or}
use Rattle.xp_words.specs.declared.kind.PageType.{PageType}
use Rattle.xp_words.specs.declared.kind.PageType.TheVariants as kinds
use Rattle.xp_words.specs.Entries.{is_bit, is_lowest, is_reserved}

pub has_present : (w : ℕ) → (bit_and w 1 == 1) ≡ is_bit 0 w
has_present w = let e = and_pow w 0 in grind (arith, nat_tests)

pub has_rw : (w : ℕ) → (bit_and w 2 == 2) ≡ is_bit 1 w
has_rw w = let e = and_pow w 1 in grind (arith, nat_tests)

-- ---- a word and a union of sets
min_max : (x y z : ℕ) → min x (max y z) ≡ max (min x y) (min x z)
min_max x y z = omega arith

pub and-or : (w a b : ℕ) → bit_and w (bit_or a b) ≡ bit_or (bit_and w a) (bit_and w b)
and-or w a b =
    same_from_bits _ _
    (λ i. rw (bit_at_and w (bit_or a b) i, bit_at_or a b i, bit_at_or (bit_and w a) (bit_and w b) i, bit_at_and w a i, bit_at_and w b i) (min_max (bit_at w i) (bit_at a i) (bit_at b i)))

some_of_both : (o n a b : ℕ) → o + n ≡ a + b → n ≤ a → n ≤ b → not (o == 0) ≡ (not (a == 0) || not (b == 0))
some_of_both o n a b e l r = grind (arith, nat_tests)

meets_either : (w a b : ℕ) → not (bit_and w (bit_or a b) == 0) ≡ (not (bit_and w a == 0) || not (bit_and w b == 0))
meets_either w a b =
    let x = bit_and w a in
    let y = bit_and w b in
    rw (and-or w a b) (some_of_both (bit_or x y) (bit_and x y) x y (or_add_and x y) (and_le_l x y) (and_le_r x y))

-- ---- the reserved bits
meets_cache_bits : (w : ℕ) → not (bit_and w 0x18 == 0) ≡ not (w / 2 ^ 3 % 4 == 0)
meets_cache_bits w = let e = and_high w 2 3 in grind (arith, nat_tests)

meets_size : (w : ℕ) → not (bit_and w 0x80 == 0) ≡ is_bit 7 w
meets_size w = let e = and_pow w 7 in grind (arith, nat_tests)

meets_global : (w : ℕ) → not (bit_and w 0x100 == 0) ≡ is_bit 8 w
meets_global w = let e = and_pow w 8 in grind (arith, nat_tests)

meets_high : (w : ℕ) → not (bit_and w 0x7ff0_0000_0000_0000 == 0) ≡ not (w / 2 ^ 52 % 2 ^ 11 == 0)
meets_high w = let e = and_high w 11 52 in grind (arith, nat_tests)

pub meets_lowest : (w : ℕ) → not (bit_and w 0x7ff0_0000_0000_0098 == 0) ≡ is_reserved true w
meets_lowest w =
    let all = meets_either w 0x98 0x7ff0_0000_0000_0000 in
    let low = meets_either w 0x18 0x80 in
    rw (all, low, meets_cache_bits w, meets_size w, meets_high w, or-false)

pub meets_above : (w : ℕ) → not (bit_and w 0x7ff0_0000_0000_0198 == 0) ≡ is_reserved false w
meets_above w =
    let all = meets_either w 0x198 0x7ff0_0000_0000_0000 in
    let global = meets_either w 0x98 0x100 in
    let low = meets_either w 0x18 0x80 in
    rw (all, global, low, meets_cache_bits w, meets_size w, meets_global w, meets_high w)

pub not_lowest : (t : PageType) → (t ≡ kinds.L1 → ⊥) → is_lowest t ≡ false
not_lowest kinds.L1 other = absurd (other refl)
not_lowest _ other = refl
