-- The first place of a byte, as a search tells it.
use Rattle.std.proofs.Common.{◌≡◌, ℕ, List, length, Option, Some, None, eqb, refl, sym, ◌∙◌, arith, inl, inr}
use Rattle.std.specs.List.{position, position_or_len}
use Rattle.std.proofs.lemmas.List.Sums.{fails_before_first, passes_at_first}
use Rattle.std.proofs.lemmas.Bool.{cases_lt, cases_eq, le-ltb, lt-ltb, false≢true}
use Rattle.memchr.specs.Find.{IsFirstByte}

module _ (byte : ℕ) (bs : List ℕ) where
  abbrev at : ℕ
  at = position_or_len (λ b. eqb b byte) bs

  pub far_is_position : (r : Option ℕ) → IsFirstByte (λ b. eqb b byte) bs r → r ≡ position (λ b. eqb b byte) bs
  far_is_position None nowhere =
      elim (cases_lt at (length bs)) [
        | inl lt ↦ absurd (nowhere at (omega arith) lt (passes_at_first (λ b. eqb b byte) bs 0 lt))
        | inr le ↦ rw (le-ltb at (length bs) le) refl
      ]
  far_is_position (Some k) first =
      elim (cases_lt k at) [
        | inl before ↦ absurd (false≢true (sym (fails_before_first (λ b. eqb b byte) bs k 0 before) ∙ first.1))
        | inr from ↦ elim (cases_eq k at) [
          | inl same ↦ rw (lt-ltb at (length bs) (omega (arith, same, first.0.high)), same) refl
          | inr other ↦ absurd (first.0.before at (omega arith) (omega (arith, from, other)) (passes_at_first (λ b. eqb b byte) bs 0 (omega (arith, from, first.0.high))))
        ]
      ]
