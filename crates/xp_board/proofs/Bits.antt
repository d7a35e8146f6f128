-- Bits of a word: one set or cleared leaves the others, and what it leaves of privileges.
use Rattle.std.proofs.Common.{◌≡◌, ◌≢◌, ℕ, ◌+◌, ◌-◌, ◌*◌, ◌^◌, ◌/◌, ◌%◌, ◌<◌, ◌≤◌, ◌==◌, Bool, true, false, refl, sym, ◌∙◌, ap, subst, arith, inl, inr, bit_or, IsTrue, if◌then◌else◌}
use Rattle.std.proofs.lemmas.Nat.{or_lt, or_disjoint, pow_below, pow_pos}
use Rattle.std.proofs.lemmas.Nat.Bits.{bit_at_above, and_pow, bit_at_or, bit_at-pow_same, bit_at-pow_other}
use Rattle.std.proofs.lemmas.Bool.{cases_eq, cases_lt}
use Rattle.std.proofs.lemmas.Bool.Decides.{nat_tests}
use Rattle.std.specs.Int.{bit_at}
use Rattle.std.proofs.Math.Nat.{add-mul-div_right}
use Rattle.xp_words.specs.Entries.{is_bit}
use Rattle.xp_board.specs.FillSteps.{with_bit}
use Rattle.xp_board.specs.PrivSteps.{granted, revoked}

-- a bit that is not set: the word with it
module _ (w i room : ℕ) (off : bit_at w i ≡ 0) where
  as_or : bit_or w (2 ^ i) ≡ w + 2 ^ i
  as_or = or_disjoint w (2 ^ i) (and_pow w i ∙ ap (λ y. y * 2 ^ i) off ∙ omega arith)

  pub added_small : w < 2 ^ room → i < room → w + 2 ^ i < 2 ^ room
  added_small b l = subst (λ y. y < 2 ^ room) as_or (or_lt room w (2 ^ i) b (pow_below i room l))

  pub added_here : bit_at (w + 2 ^ i) i ≡ 1
  added_here = ap (λ y. bit_at y i) (sym as_or) ∙ let o = bit_at_or w (2 ^ i) i in let p = bit_at-pow_same i in omega arith

  pub added_other : (j : ℕ) → j ≢ i → bit_at (w + 2 ^ i) j ≡ bit_at w j
  added_other j n = ap (λ y. bit_at y j) (sym as_or) ∙ let o = bit_at_or w (2 ^ i) j in let p = bit_at-pow_other i j n in omega arith

-- a bit that is set: the word has it
pub has_bit : (w i : ℕ) → bit_at w i ≡ 1 → 2 ^ i ≤ w
has_bit w i e =
    elim (cases_lt w (2 ^ i)) [
      | inl below ↦ let none = bit_at_above w i i below (omega arith) in absurd (omega arith)
      | inr above ↦ omega arith
    ]

-- and the word without it has it no more
pub cleared_bit : (w v i : ℕ) → bit_at w i ≡ 1 → v + 2 ^ i ≡ w → bit_at v i ≡ 0
cleared_bit w v i e k =
    let high : (v + 1 * 2 ^ i) / 2 ^ i ≡ v / 2 ^ i + 1 = add-mul-div_right v 1 (pow_pos i) in
    let whole : v + 1 * 2 ^ i ≡ w = omega arith in
    let same = ap (λ y. y / 2 ^ i) whole in
    omega arith

pub pow_same : (i j : ℕ) → 2 ^ i ≡ 2 ^ j → i ≡ j
pow_same i j e =
    elim (cases_eq i j) [
      | inl at ↦ at
      | inr off ↦
          elim (cases_lt i j) [
            | inl below ↦ let less = pow_below i j below in absurd (omega arith)
            | inr above ↦ let n : i ≢ j = off in let less = pow_below j i (omega arith) in absurd (omega arith)
          ]
    ]

-- ---- the same by the test of a bit
bit_off : (w i : ℕ) → is_bit i w ≡ false → bit_at w i ≡ 0
bit_off w i clear = let k : w / 2 ^ i % 2 ≡ 0 = grind (arith, nat_tests) in k

bit_on : (w i : ℕ) → is_bit i w ≡ true → bit_at w i ≡ 1
bit_on w i set = let k : w / 2 ^ i % 2 ≡ 1 = grind (arith, nat_tests) in k

set_other : (w i j : ℕ) → is_bit i w ≡ false → j ≢ i → is_bit j (w + 2 ^ i) ≡ is_bit j w
set_other w i j clear off = ap (λ x. x == 1) (added_other w i 0 (bit_off w i clear) j off)

set_here : (w i : ℕ) → is_bit i w ≡ false → is_bit i (w + 2 ^ i) ≡ true
set_here w i clear = ap (λ x. x == 1) (added_here w i 0 (bit_off w i clear))

clear_other : (w i j : ℕ) → is_bit i w ≡ true → j ≢ i → is_bit j (w - 2 ^ i) ≡ is_bit j w
clear_other w i j set off =
    let on = bit_on w i set in
    let less = has_bit w i on in
    let whole : w - 2 ^ i + 2 ^ i ≡ w = omega arith in
    sym (ap (λ x. x == 1) (added_other (w - 2 ^ i) i 0 (cleared_bit w (w - 2 ^ i) i on whole) j off)) ∙ ap (is_bit j) whole

-- ---- set and cleared
set_by : (w i j : ℕ) (b : Bool) → is_bit i w ≡ b → IsTrue (is_bit j w) → IsTrue (is_bit j (if b then w else w + 2 ^ i))
set_by w i j true e t = t
set_by w i j false e t =
    elim (cases_eq j i) [
      | inl at ↦ absurd (let k : is_bit j w ≡ false = ap (λ x. is_bit x w) at ∙ e in cc)
      | inr off ↦ set_other w i j e off ∙ t
    ]

cleared_by : (w i j : ℕ) (b : Bool) → is_bit i w ≡ b → j ≢ i → IsTrue (is_bit j w) → IsTrue (is_bit j (if b then w - 2 ^ i else w))
cleared_by w i j true e off t = clear_other w i j e off ∙ t
cleared_by w i j false e off t = t

pub with_bit-keeps : (w i j : ℕ) → IsTrue (is_bit j w) → IsTrue (is_bit j (with_bit i w))
with_bit-keeps w i j t = set_by w i j (is_bit i w) refl t

pub with_bit-other : (w i j : ℕ) → j ≢ i → is_bit j (with_bit i w) ≡ is_bit j w
with_bit-other w i j off =
    elim (is_bit i w) as (λ b. is_bit i w ≡ b → is_bit j (if b then w else w + 2 ^ i) ≡ is_bit j w) [
      | true ↦ λ e. refl
      | false ↦ λ e. set_other w i j e off
    ] refl

-- privileges that were had are had
pub granted-ever : (w over o : ℕ) → IsTrue (is_bit (16 + o) w) → IsTrue (is_bit (16 + o) (granted over w))
granted-ever w over o t = with_bit-keeps (with_bit over w) (16 + over) (16 + o) (with_bit-keeps w over (16 + o) t)

pub revoked-ever : (w over o : ℕ) → over < 16 → IsTrue (is_bit (16 + o) w) → IsTrue (is_bit (16 + o) (revoked over w))
revoked-ever w over o few t = cleared_by w over (16 + o) (is_bit over w) refl (λ e. omega arith) t

revoked_by : (w over o : ℕ) (b : Bool) → is_bit over w ≡ b → (IsTrue (is_bit o w) → IsTrue (is_bit (16 + o) w)) →
    IsTrue (is_bit o (if b then w - 2 ^ over else w)) → IsTrue (is_bit (16 + o) w)
revoked_by w over o true e had t =
    elim (cases_eq o over) [
      | inl at ↦ had (ap (λ i. is_bit i w) at ∙ e)
      | inr off ↦ had (sym (clear_other w over o e off) ∙ t)
    ]
revoked_by w over o false e had t = had t

-- what is had now was had
pub revoked-now : (w over o : ℕ) → over < 16 → (IsTrue (is_bit o w) → IsTrue (is_bit (16 + o) w)) → IsTrue (is_bit o (revoked over w)) → IsTrue (is_bit (16 + o) (revoked over w))
revoked-now w over o few had t = revoked-ever w over o few (revoked_by w over o (is_bit over w) refl had t)

set_here_by : (w i : ℕ) (b : Bool) → is_bit i w ≡ b → IsTrue (is_bit i (if b then w else w + 2 ^ i))
set_here_by w i true e = e
set_here_by w i false e = set_here w i e

pub granted-now : (w over o : ℕ) → o < 16 → (IsTrue (is_bit o w) → IsTrue (is_bit (16 + o) w)) → IsTrue (is_bit o (granted over w)) → IsTrue (is_bit (16 + o) (granted over w))
granted-now w over o few had t =
    elim (cases_eq o over) [
      | inl at ↦ rw at (set_here_by (with_bit over w) (16 + over) (is_bit (16 + over) (with_bit over w)) refl)
      | inr off ↦
          granted-ever w over o
          (had (sym (with_bit-other w over o off) ∙ sym (with_bit-other (with_bit over w) (16 + over) o (λ e. omega arith)) ∙ t))
    ]
