-- Sums over lists of which one element changes, or all.
use Rattle.std.proofs.Common.{◌≡◌, ℕ, zero, suc, ◌+◌, ◌*◌, ◌<◌, ◌≤◌, inl, inr, List, Some, refl, sym, ap, ◌∙◌, subst, arith, slice_set}
use Rattle.std.specs.Prelude.{slice_get, sum_by}
use Rattle.std.specs.List.{range_with_len}
use Rattle.std.proofs.lemmas.Bool.{cases_eq}
use Rattle.std.proofs.lemmas.List.Sums.{sum_by-cons, sum_by-set}
use Rattle.std.proofs.lemmas.Option.{slice_get_within, get_or_from_slice_get}

-- ---- one element is set anew
pub set_sum : {X : Type 0} (f : X → ℕ) (xs : List X) (v : ℕ) (c d : X) → slice_get xs v ≡ Some c → sum_by f (slice_set xs v d) + f c ≡ sum_by f xs + f d
set_sum f xs v c d at =
    let k = sum_by-set f xs v d c (slice_get_within xs v c at) in
    ap (λ x. sum_by f (slice_set xs v d) + f x) (sym (get_or_from_slice_get xs v c c at)) ∙ k

-- ---- sums over numbers
-- what is at most m for each is at most that often m
pub sum_most : (f : ℕ → ℕ) (m a k : ℕ) → ((t : ℕ) → f t ≤ m) → sum_by f (range_with_len a k) ≤ k * m
sum_most f m a zero most = omega arith
sum_most f m a (suc k) most =
    let here = most a in
    let rest = sum_most f m (a + 1) k most in
    let e = sum_by-cons f a (range_with_len (a + 1) k) in
    omega arith

module _ (f g : ℕ → ℕ) where
  -- where none is more than before
  pub sum_le : (a k : ℕ) → ((t : ℕ) → a ≤ t → t < a + k → g t ≤ f t) → sum_by g (range_with_len a k) ≤ sum_by f (range_with_len a k)
  sum_le a zero no_more = omega arith
  sum_le a (suc k) no_more =
      let here = no_more a (omega arith) (omega arith) in
      let rest = sum_le (a + 1) k (λ t up down. no_more t (omega arith) (omega arith)) in
      let e = sum_by-cons f a (range_with_len (a + 1) k) in
      let h = sum_by-cons g a (range_with_len (a + 1) k) in
      omega arith

  pub sum_same : (a k : ℕ) → ((t : ℕ) → a ≤ t → t < a + k → g t ≡ f t) → sum_by g (range_with_len a k) ≡ sum_by f (range_with_len a k)
  sum_same a zero no_more = refl
  sum_same a (suc k) no_more =
      let here = no_more a (omega arith) (omega arith) in
      let rest = sum_same (a + 1) k (λ t up down. no_more t (omega arith) (omega arith)) in
      let e = sum_by-cons f a (range_with_len (a + 1) k) in
      let h = sum_by-cons g a (range_with_len (a + 1) k) in
      omega arith

  -- and one less
  pub sum_falls : (a k v : ℕ) → a ≤ v → v < a + k → ((t : ℕ) → a ≤ t → t < a + k → g t ≤ f t) → g v < f v → sum_by g (range_with_len a k) < sum_by f (range_with_len a k)
  sum_falls a zero v up down no_more less = absurd (omega arith)
  sum_falls a (suc k) v up down no_more less =
      let here = no_more a (omega arith) (omega arith) in
      let e = sum_by-cons f a (range_with_len (a + 1) k) in
      let h = sum_by-cons g a (range_with_len (a + 1) k) in
      elim (cases_eq v a) [
        | inl at ↦
            (let now : g a < f a = subst (λ x. g x < f x) at less in
            let rest = sum_le (a + 1) k (λ t u w. no_more t (omega arith) (omega arith)) in
            omega arith)
        | inr off ↦
            (let rest = sum_falls (a + 1) k v (omega arith) (omega arith) (λ t u w. no_more t (omega arith) (omega arith)) less in
            omega arith)
      ]
