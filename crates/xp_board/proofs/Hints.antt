-- A bit of the free map is set or cleared: which frame it tells, and what the sum makes of the list of raised frames.
use Rattle.std.proofs.Common.{◌≡◌, ℕ, ◌+◌, ◌-◌, ◌%◌, ◌^◌, ◌/◌, ◌<◌, ◌⊎◌, ◌++◌, map, Bool, true, false, List, [], ◌∷◌, Option, Some, None, refl, sym, ◌∙◌, ap, arith, inl, inr}
use Rattle.std.proofs.lemmas.Bool.{cases_eq, and_parts, cases_Bool, eqb-true}
use Rattle.xp_board.specs.declared.holdings.Holdings.{Holdings}
use Rattle.xp_board.specs.Lists.{one_at, times, times_by, first_of, without_by}
use Rattle.xp_board.specs.Hands.{endings_of, claims_of}
use Rattle.xp_board.specs.HintSteps.{MayHint, MayUnhint, is_raise, is_lower, lowered_frame, raised_frame, raised_by, held_frames}
use Rattle.xp_board.proofs.Sums.{when_eq}
use Rattle.xp_board.proofs.Bits.{pow_same}
use Rattle.xp_words.proofs.Shared.{eq_false as when_ne}

-- ---- searches
pub found_of : (test : ℕ → Bool) (xs : List ℕ) (g : ℕ) → first_of test xs ≡ Some g → (test g ≡ true) × (0 < times g xs)
unfolding first_of times_by
found_of test [] g e = absurd (cc)
found_of test (x ∷ xs) g e =
    elim (cases_Bool (test x)) [
      | inl at ↦
          let k : Some x ≡ Some g = rw at at e in
          let i : x ≡ g = cc in
          let one : one_at g x ≡ 1 = rw (when_eq x g i) in
          (ap test (sym i) ∙ at, omega arith)
      | inr off ↦ let rest = found_of test xs g (rw off at e) in (rest.0, let r = rest.1 in omega arith)
    ]

pub none_of : (test : ℕ → Bool) (xs : List ℕ) (g : ℕ) → first_of test xs ≡ None → 0 < times g xs → test g ≡ false
unfolding first_of times_by
none_of test [] g e k = absurd (omega arith)
none_of test (x ∷ xs) g e k =
    elim (cases_Bool (test x)) [
      | inl at ↦ let n : Some x ≡ None = rw at at e in absurd (cc)
      | inr off ↦
          elim (cases_eq x g) [
            | inl same ↦ ap test (sym same) ∙ off
            | inr other ↦ let zero : one_at g x ≡ 0 = rw (when_ne x g other) in none_of test xs g (rw off at e) (omega arith)
          ]
    ]

-- ---- the frame is told by the word and the bit
pub raise_parts : (k by g : ℕ) → is_raise k by g ≡ true → (g / 64 ≡ k) × (2 ^ (g % 64) ≡ by)
raise_parts k by g e = let p = and_parts _ _ e in (eqb-true _ _ p.0, eqb-true _ _ p.1)

pub lower_parts : (k by g : ℕ) → is_lower k by g ≡ true → (g / 64 ≡ k) × (2 ^ 64 - 2 ^ (g % 64) ≡ by)
lower_parts k by g e = let p = and_parts _ _ e in (eqb-true _ _ p.0, eqb-true _ _ p.1)

pub same_frame : (f g : ℕ) → f / 64 ≡ g / 64 → 2 ^ (f % 64) ≡ 2 ^ (g % 64) → f ≡ g
same_frame f g a b = let c = pow_same (f % 64) (g % 64) b in omega arith

-- ---- the frames that a vCPU may hint at
map_times : {A : Type 0} (key : A → ℕ) (g : ℕ) (xs : List A) (ys : List ℕ) → times g (map key xs ++ ys) ≡ times_by key g xs + times g ys
unfolding times_by
map_times key g [] ys = omega arith
map_times key g (x ∷ xs) ys = let rest = map_times key g xs ys in omega arith

mapped_times : {A : Type 0} (key : A → ℕ) (g : ℕ) (xs : List A) → times g (map key xs) ≡ times_by key g xs
unfolding times_by
mapped_times key g [] = refl
mapped_times key g (x ∷ xs) = let rest = mapped_times key g xs in omega arith

held_times : (g : ℕ) (u : Holdings) → times g (held_frames u) ≡ endings_of g u.ending + claims_of g u.claimed
held_times g u =
    let p = map_times (λ e. e.frame) g u.ending (map (λ e. e.frame) u.claimed) in
    let q = mapped_times (λ e. e.frame) g u.claimed in
    omega arith

-- ---- what the sum does
pub data Hint (k by : ℕ) (u : Holdings) : Type 0 where
  sets : (g : ℕ) → g / 64 ≡ k → 2 ^ (g % 64) ≡ by → 0 < endings_of g u.ending + claims_of g u.claimed → times g u.raised ≡ 0 →
      raised_by (lowered_frame k by u) (raised_frame k by u) u.raised ≡ g ∷ u.raised → Hint k by u
  clears : (g : ℕ) → g / 64 ≡ k → 2 ^ 64 - 2 ^ (g % 64) ≡ by → 0 < times g u.raised →
      raised_by (lowered_frame k by u) (raised_frame k by u) u.raised ≡ without_by (λ y. y) g u.raised → Hint k by u

unhint_lowers : (k by : ℕ) (u : Holdings) → lowered_frame k by u ≡ None → MayUnhint k by u → ⊥
unhint_lowers k by u none may = let off = none_of (is_lower k by) u.raised may.frame none may.raised in let on = may.adds in cc

hint_raises : (k by : ℕ) (u : Holdings) → raised_frame k by u ≡ None → MayHint k by u → ⊥
hint_raises k by u none may =
    let held = held_times may.frame u in
    let has = may.held in
    let off = none_of (is_raise k by) (held_frames u) may.frame none (omega arith) in
    let on = may.adds in
    cc

hint_by : (k by : ℕ) (u : Holdings) (o p : Option ℕ) → lowered_frame k by u ≡ o → raised_frame k by u ≡ p → MayHint k by u ⊎ MayUnhint k by u → Hint k by u
hint_by k by u (Some g) p a b may =
    let found = found_of (is_lower k by) u.raised g a in
    let parts = lower_parts k by g found.0 in
    clears g parts.0 parts.1 found.1 (ap (λ y. raised_by y (raised_frame k by u) u.raised) a)
hint_by k by u None (Some g) a b (inl may) =
    let found = found_of (is_raise k by) (held_frames u) g b in
    let parts = raise_parts k by g found.0 in
    let other = raise_parts k by may.frame may.adds in
    let same = same_frame may.frame g (other.0 ∙ sym parts.0) (other.1 ∙ sym parts.1) in
    let held = held_times g u in
    let some = found.1 in
    sets g parts.0 parts.1 (omega arith) (ap (λ y. times y u.raised) (sym same) ∙ may.lowered)
    (ap (λ y. raised_by y (raised_frame k by u) u.raised) a ∙ ap (λ y. raised_by None y u.raised) b)
hint_by k by u None None a b (inl may) = absurd (hint_raises k by u b may)
hint_by k by u None p a b (inr may) = absurd (unhint_lowers k by u a may)

pub hint_is : (k by : ℕ) (u : Holdings) → MayHint k by u ⊎ MayUnhint k by u → Hint k by u
hint_is k by u may = hint_by k by u (lowered_frame k by u) (raised_frame k by u) refl refl may
