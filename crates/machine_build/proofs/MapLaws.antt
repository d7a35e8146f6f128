use Rattle.std.proofs.Common.{◌≡◌, ℕ, zero, suc, ◌+◌, ◌-◌, ◌*◌, ◌^◌, ◌<◌, ◌==◌, Bool, true, false, refl, ◌∙◌, ap, arith, if◌then◌else◌, inl, inr}
use Rattle.std.specs.Int.{bit_at}
use Rattle.std.proofs.lemmas.Bool.{cases_lt}
use Rattle.std.proofs.lemmas.Nat.Bits.{bit_at_cat_low, bit_at_cat_high}
use Rattle.xp_words.specs.RefWords.{bit}
use Rattle.xp_words.specs.Entries.{is_bit}
use Rattle.xp_words.specs.declared.place.Place.TheVariants.{Map}
use Rattle.trace_text.specs.declared.trace.Trace.{Trace}
use Rattle.machine_build.specs.Opening.{bits_below, is_unowned, opening_at}
use Rattle.machine_build.proofs.Steps.{bits_below-lt}

by_test : (b : Bool) (w q : ℕ) → w + (if b then q else 0) ≡ bit b * q + w
by_test true w q = omega arith
by_test false w q = omega arith

top_first : (n : ℕ) (p : ℕ → Bool) → bits_below (suc n) p ≡ bit (p n) * 2 ^ n + bits_below n p
unfolding bits_below
top_first n p = by_test (p n) (bits_below n p) (2 ^ n)

bit_zero : (b : Bool) → bit_at (bit b) 0 ≡ bit b
bit_zero true = refl
bit_zero false = refl

bit_there : (n i : ℕ) (p : ℕ → Bool) → i < n → bit_at (bits_below n p) i ≡ bit (p i)
bit_there zero i p h = absurd (omega arith)
bit_there (suc n) i p h =
    rw (top_first n p)
    (elim (cases_lt i n) [
      | inl k ↦ bit_at_cat_low (bit (p n)) n (bits_below n p) i k ∙ bit_there n i p k
      | inr k ↦
          let at : i ≡ n = omega arith in
          let none : i - n ≡ 0 = omega arith in
          bit_at_cat_high (bit (p n)) n (bits_below n p) i (bits_below-lt n p) k ∙ rw (none, at) (bit_zero (p n))
    ])

back : (b : Bool) → (bit b == 1) ≡ b
back true = refl
back false = refl

pub each_bit : (t : Trace) (k b : ℕ) → b < 64 → is_bit b (opening_at t (Map k)) ≡ is_unowned t (64 * k + b)
unfolding opening_at
each_bit t k b h = ap (λ (n : ℕ). n == 1) (bit_there 64 b (λ i. is_unowned t (64 * k + i)) h) ∙ back (is_unowned t (64 * k + b))

pub map_word-lt : (t : Trace) (k : ℕ) → opening_at t (Map k) < 2 ^ 64
unfolding opening_at
map_word-lt t k = bits_below-lt 64 (λ b. is_unowned t (64 * k + b))
