-- How great the opening words are.
use Rattle.std.proofs.Common.{◌≡◌, ℕ, zero, suc, ◌+◌, ◌-◌, ◌*◌, ◌^◌, ◌<◌, ◌≤◌, ◌==◌, ◌&&◌, nat_lt, cond, Bool, true, false, List, [], ◌∷◌, length, All, reverse, find, Option, Some, None, inl, inr, refl, ◌∙◌, ap, arith, lit<}
use Rattle.std.proofs.Math.Nat.{pow-le-pow_right}
use Rattle.std.proofs.lemmas.Bool.{cases_lt}
use Rattle.std.proofs.lemmas.Bool.Decides.{nat_tests}
use Rattle.std.proofs.lemmas.List.{get_or-reverse, length-reverse}
use Rattle.std.proofs.lemmas.Nat.Bits.{bit_at_cat_low, bit_at_cat_high}
use Rattle.std.specs.Int.{bit_at}
use Rattle.xp_board.specs.Spelling.{map_bits, IsPriv}
use Rattle.trace_text.specs.declared.trace.Own.{Own}
use Rattle.trace_text.specs.declared.trace.CellRun.{CellRun}
use Rattle.machine_build.specs.Opening.{bits_below, value_in, both_halves}
use Rattle.machine_build.proofs.Steps.{bits_below-lt}

-- ---- the domain of a run
unfoldable pub BelowIn : ℕ → Option Own → Type 0
BelowIn n None = Unit {0}
BelowIn n (Some o) = o.domain < n

first_below : (n : ℕ) (b : Bool) (x : Own) (y : Option Own) → x.domain < n → BelowIn n y → BelowIn n (cond b (Some x) y)
unfolding BelowIn
first_below n true x y h k = h
first_below n false x y h k = k

pub found_below : (n : ℕ) (p : Own → Bool) (xs : List Own) → All (λ x. x.domain < n) xs → BelowIn n (find p xs)
unfolding BelowIn
found_below n p [] h = tt
found_below n p (x ∷ xs) h = first_below n (p x) x (find p xs) (h 0 x (omega arith)) (found_below n p xs (λ k d b. h (suc k) d (omega arith)))

-- ---- the word of a cell
first_value : (b : Bool) (x : CellRun) (y : Option CellRun) → x.value < 2 ^ 64 → value_in y < 2 ^ 64 → value_in (cond b (Some x) y) < 2 ^ 64
first_value true x y h k = h
first_value false x y h k = k

pub found_value : (p : CellRun → Bool) (xs : List CellRun) → All (λ x. x.value < 2 ^ 64) xs → value_in (find p xs) < 2 ^ 64
found_value p [] h = lit< tt
found_value p (x ∷ xs) h = first_value (p x) x (find p xs) (h 0 x (omega arith)) (found_value p xs (λ k d b. h (suc k) d (omega arith)))

pub values_turned : (xs : List CellRun) → All (λ x. x.value < 2 ^ 64) xs → All (λ x. x.value < 2 ^ 64) (reverse xs)
values_turned xs h k d b =
    let inside : k < length xs = (let l = length-reverse xs in omega arith) in
    rw (get_or-reverse xs k d inside) (h (length xs - 1 - k) d (omega arith))

-- ---- bits of frames that the machine has
few_bits : (n c : ℕ) (p : ℕ → Bool) → ((i : ℕ) → c ≤ i → p i ≡ false) → bits_below n p < 2 ^ c
unfolding bits_below
few_bits zero c p h = pow-le-pow_right {n = 2} (lit< tt) {i = 0} {j = c} (omega arith)
few_bits (suc n) c p h =
    elim (cases_lt n c) [
      | inl k ↦
          let all = bits_below-lt (suc n) p in
          let more : 2 ^ suc n ≤ 2 ^ c = pow-le-pow_right {n = 2} (lit< tt) {i = suc n} {j = c} (omega arith) in
          omega arith
      | inr k ↦
          let off = h n k in
          let rest = few_bits n c p h in
          rw off (omega arith)
    ]

pub free_bits_few : (frames k : ℕ) (q : ℕ → Bool) → bits_below 64 (λ b. nat_lt (64 * k + b) frames && q (64 * k + b)) < 2 ^ map_bits frames k
free_bits_few frames k q =
    elim (cases_lt frames (64 * k + 64)) [
      | inl b ↦
          let part : map_bits frames k ≡ frames - 64 * k = grind (arith, nat_tests) in
          rw part (few_bits 64 (frames - 64 * k) _ (λ i l. (let off : nat_lt (64 * k + i) frames ≡ false = grind (arith, nat_tests) in rw off refl)))
      | inr b ↦
          let whole : map_bits frames k ≡ 64 = grind (arith, nat_tests) in
          rw whole (bits_below-lt 64 _)
    ]

-- ---- privileges
pub priv_word : (mask : ℕ) → mask < 2 ^ 16 → IsPriv (both_halves mask)
priv_word mask h = (
  omega arith,
  λ o b e. (
      let cat : both_halves mask ≡ mask * 2 ^ 16 + mask = omega arith in
      let low = bit_at_cat_low mask 16 mask o b in
      let high = bit_at_cat_high mask 16 mask (16 + o) h (omega arith) in
      let at : 16 + o - 16 ≡ o = omega arith in
      let same : bit_at (both_halves mask) (16 + o) ≡ bit_at (both_halves mask) o = rw (cat, low, high, at) refl in
      ap (λ n. n == 1) same ∙ e),
)
