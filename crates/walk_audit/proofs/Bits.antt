-- A number whose upper bits are not set.
use Rattle.std.proofs.Common.{◌≡◌, ℕ, zero, suc, ◌+◌, ◌*◌, ◌/◌, ◌^◌, ◌<◌, ◌≤◌, true, false, refl, subst, inl, inr, add-zero, lit<, arith}
use Rattle.std.proofs.lemmas.Bool.{cases_lt}
use Rattle.std.proofs.lemmas.Nat.{pow_pos}
use Rattle.std.proofs.Math.Nat.{pow-suc, pow-le-pow_right, div-eq_of_lt, div-lt_iff_lt-mul}
use Rattle.xp_words.specs.Entries.{is_bit}

one_fewer : (w k : ℕ) → w < 2 ^ suc k → is_bit k w ≡ false → w < 2 ^ k
one_fewer w k l e = elim (cases_lt w (2 ^ k)) [
  | inl b ↦ b
  | inr b ↦ absurd (
      let twice = pow-suc 2 k in
      let most : w / 2 ^ k < 2 = (div-lt_iff_lt-mul {k = 2 ^ k} {x = w} {y = 2} (pow_pos k)).1 (omega arith) in
      let some : w / 2 ^ k ≡ 1 = elim (cases_lt (w / 2 ^ k) 1) [
        | inl none ↦ absurd (let small : w < 1 * 2 ^ k = (div-lt_iff_lt-mul {k = 2 ^ k} {x = w} {y = 1} (pow_pos k)).0 none in omega arith)
        | inr more ↦ omega arith
      ] in
      let set : is_bit k w ≡ true = rw some refl in
      cc)
]

pub few_bits : (j w k : ℕ) → w < 2 ^ (k + j) → ((b : ℕ) → k ≤ b → b < k + j → is_bit b w ≡ false) → w < 2 ^ k
few_bits zero w k l h = subst (λ x. w < 2 ^ x) (add-zero k) l
few_bits (suc j) w k l h =
    let more : k + suc j ≡ suc (k + j) = omega arith in
    few_bits j w k (one_fewer w (k + j) (subst (λ x. w < 2 ^ x) more l) (h (k + j) (omega arith) (omega arith))) (λ b a c. h b a (omega arith))

-- a number below a power of 2 has no bit from there on
pub no_upper_bit : (w k b : ℕ) → w < 2 ^ k → k ≤ b → is_bit b w ≡ false
no_upper_bit w k b l h =
    let more : 2 ^ k ≤ 2 ^ b = pow-le-pow_right {n = 2} (lit< tt) {i = k} {j = b} h in
    let none : w / 2 ^ b ≡ 0 = div-eq_of_lt (omega arith) in
    rw none refl
