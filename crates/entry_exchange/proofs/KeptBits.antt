-- The accessed and dirty bits of the old word, by masks.
use Rattle.std.proofs.Common.{◌≡◌, ℕ, ◌+◌, ◌/◌, ◌%◌, ◌^◌, if◌then◌else◌, max, Bool, true, false, refl, ap, ◌∙◌, arith}
use Rattle.std.proofs.lemmas.Nat.{and_le_r}
use Rattle.std.proofs.lemmas.Nat.Bits.{and_pow, bit_at_or, same_from_bits}
use Rattle.std.proofs.lemmas.Bool.Decides.{nat_tests}
use Rattle.std.specs.Int.{bit_at}
use Rattle.std.specs.Int.Bits.{or_add_and}
use Rattle.std.specs.Int.RustNames.{bit_and, bit_or}
use Rattle.xp_words.specs.Entries.{is_bit}
use Rattle.pte_check.proofs.Masks.{and-or}
use Rattle.xp_board.specs.FillSteps.{with_bit}
use Rattle.step_maker.specs.Licences.{with_old_bit}

-- ---- unions
max_max : (x y z : ℕ) → max x (max y z) ≡ max (max x y) z
max_max x y z = omega arith

or-or : (w a b : ℕ) → bit_or w (bit_or a b) ≡ bit_or (bit_or w a) b
or-or w a b = same_from_bits _ _ (λ i. rw (bit_at_or w (bit_or a b) i, bit_at_or a b i, bit_at_or (bit_or w a) b i, bit_at_or w a i) (max_max (bit_at w i) (bit_at a i) (bit_at b i)))

or_none : (w : ℕ) → bit_or w 0 ≡ w
or_none w = let e = or_add_and w 0 in let l = and_le_r w 0 in omega (arith, e, l)

-- ---- one bit
set5 : (w : ℕ) (b : Bool) → is_bit 5 w ≡ b → bit_or w 32 ≡ (if b then w else w + 2 ^ 5)
set5 w true on = let e = or_add_and w 32 in let p = and_pow w 5 in let one : w / 2 ^ 5 % 2 ≡ 1 = grind (arith, nat_tests) in omega (arith, e, p, one)
set5 w false on = let e = or_add_and w 32 in let p = and_pow w 5 in let one : w / 2 ^ 5 % 2 ≡ 0 = grind (arith, nat_tests) in omega (arith, e, p, one)

set6 : (w : ℕ) (b : Bool) → is_bit 6 w ≡ b → bit_or w 64 ≡ (if b then w else w + 2 ^ 6)
set6 w true on = let e = or_add_and w 64 in let p = and_pow w 6 in let one : w / 2 ^ 6 % 2 ≡ 1 = grind (arith, nat_tests) in omega (arith, e, p, one)
set6 w false on = let e = or_add_and w 64 in let p = and_pow w 6 in let one : w / 2 ^ 6 % 2 ≡ 0 = grind (arith, nat_tests) in omega (arith, e, p, one)

old5 : (x w : ℕ) (b : Bool) → is_bit 5 x ≡ b → bit_or w (bit_and x 32) ≡ (if b then with_bit 5 w else w)
old5 x w true on =
    let p = and_pow x 5 in let one : x / 2 ^ 5 % 2 ≡ 1 = grind (arith, nat_tests) in
    let all : bit_and x 32 ≡ 32 = omega (arith, p, one) in
    ap (λ y. bit_or w y) all ∙ set5 w (is_bit 5 w) refl
old5 x w false on =
    let p = and_pow x 5 in let one : x / 2 ^ 5 % 2 ≡ 0 = grind (arith, nat_tests) in
    let none : bit_and x 32 ≡ 0 = omega (arith, p, one) in
    ap (λ y. bit_or w y) none ∙ or_none w

old6 : (x w : ℕ) (b : Bool) → is_bit 6 x ≡ b → bit_or w (bit_and x 64) ≡ (if b then with_bit 6 w else w)
old6 x w true on =
    let p = and_pow x 6 in let one : x / 2 ^ 6 % 2 ≡ 1 = grind (arith, nat_tests) in
    let all : bit_and x 64 ≡ 64 = omega (arith, p, one) in
    ap (λ y. bit_or w y) all ∙ set6 w (is_bit 6 w) refl
old6 x w false on =
    let p = and_pow x 6 in let one : x / 2 ^ 6 % 2 ≡ 0 = grind (arith, nat_tests) in
    let none : bit_and x 64 ≡ 0 = omega (arith, p, one) in
    ap (λ y. bit_or w y) none ∙ or_none w

-- ---- both
pub both_kept : (old new : ℕ) → bit_or new (bit_and old 0x60) ≡ with_old_bit 6 old (with_old_bit 5 old new)
both_kept old new =
    let all : bit_and old 0x60 ≡ bit_or (bit_and old 32) (bit_and old 64) = and-or old 32 64 in
    let low : bit_or new (bit_and old 32) ≡ with_old_bit 5 old new = old5 old new (is_bit 5 old) refl in
    ap (λ y. bit_or new y) all ∙ or-or new (bit_and old 32) (bit_and old 64) ∙ ap (λ y. bit_or y (bit_and old 64)) low ∙ old6 old (with_old_bit 5 old new) (is_bit 6 old) refl
