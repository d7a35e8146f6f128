-- All words of a vCPU that may name a frame, one behind the other.
use Rattle.std.proofs.Common.{◌≡◌, ◌≢◌, ℕ, ◌+◌, ◌-◌, ◌<◌, ◌≤◌, ◌==◌, ◌++◌, nat_le, nat_lt, Bool, List, [], Ok, Err, IsTrue, refl, sym, ap, ◌∙◌, subst, inl, inr, arith}
use Rattle.std.proofs.lemmas.Bool.{cases_Bool, cases_eq, le-ltb, leb-true, lt-ltb, ltb-false, ltb-true, or_cases}
use Rattle.xp_words.specs.declared.place.Place.TheVariants.{Vcpu}
use Rattle.xp_words.specs.declared.reply.Stop.{Stop}
use Rattle.xp_board.specs.Readings.{is_context}
use Rattle.xp_board.specs.Told.{PortValue}
use Rattle.step_maker.specs.Holds.{Rests}
use Rattle.step_maker.specs.Moves.{Came, Met}
use Rattle.step_maker.specs.Pauses.{LeftAs}
use Rattle.domain_destroy.specs.Destroying.{PartWent}
use Rattle.domain_destroy.specs.Emptying.{EmptiesTo, EmptiesWord, EmptiesWords, NamesNone, word_at}
use Rattle.domain_destroy.specs.Emptying as words
use Rattle.domain_destroy.proofs.Parts.{destroy_came, left_after, left_before, nothing_serves, went_same, went_then}

-- ---- each of them is one of the 34
abbrev pub IndexOf : ℕ → Type 0
IndexOf k = (i : ℕ) × (i < 34) × (word_at i ≡ k)

index_low : (k : ℕ) → k < 2 → IndexOf k
index_low k low = (k + 2, omega arith, rw (le-ltb (k + 2) 2 (omega arith), lt-ltb (k + 2) 4 (omega arith)) (omega arith))

index_mid : (k : ℕ) → 2 ≤ k → k < 4 → IndexOf k
index_mid k past low = (k - 2, omega arith, rw (lt-ltb (k - 2) 2 (omega arith)) (omega arith))

index_high : (k : ℕ) → 8 ≤ k → k < 38 → IndexOf k
index_high k past low = (k - 4, omega arith, rw (le-ltb (k - 4) 2 (omega arith), le-ltb (k - 4) 4 (omega arith)) (omega arith))

pub index_of : (k : ℕ) → k < 38 → IsTrue (is_context k) → IndexOf k
index_of k low is =
    elim (or_cases (nat_lt k 4) (nat_le 8 k) is) [
      | inl below ↦
          elim (cases_Bool (nat_lt k 2)) [
            | inl first ↦ index_low k (ltb-true k 2 first)
            | inr past ↦ index_mid k (ltb-false k 2 past) (ltb-true k 4 below)
          ]
      | inr above ↦ index_high k (leb-true 8 k above) low
    ]

-- ---- one more of them
-- so many of them were found empty, or were emptied
abbrev pub LeftEmpty : PortValue → PortValue → ℕ → ℕ → Type 0
LeftEmpty v w vcpu i = (j : ℕ) → j < i → LeftAs (Met v w) (Vcpu vcpu (word_at j)) (λ x. x == 0)

pub all_empty : (v w : PortValue) (vcpu i : ℕ) → 34 ≤ i → LeftEmpty v w vcpu i → (k : ℕ) → k < 38 → IsTrue (is_context k) → LeftAs (Met v w) (Vcpu vcpu k) (λ x. x == 0)
all_empty v w vcpu i past all k low is =
    let at = index_of k low is in
    subst (λ j. LeftAs (Met v w) (Vcpu vcpu j) (λ x. x == 0)) at.2 (all at.0 (let few = at.1 in omega (arith, few, past)))

-- so many went
abbrev pub SoFar : PortValue → PortValue → ℕ → ℕ → ℕ → List Bool → Type 0
SoFar v w d vcpu i answers = PartWent {A = Unit {0}} v w d (EmptiesWords vcpu v i w answers (Ok tt)) (Ok tt)

pub none_yet : (v : PortValue) (d vcpu : ℕ) → Rests v → NamesNone v → SoFar v v d vcpu 0 []
none_yet v d vcpu rests clear = went_same v v d (Ok tt) rests clear refl (nothing_serves v d (Ok tt) refl) tt tt words.EmptiesWords.none

pub so_far_came : (v w : PortValue) (d vcpu i : ℕ) (answers : List Bool) → SoFar v w d vcpu i answers → Came v w
so_far_came v w d vcpu i answers p = destroy_came {A = Unit {0}} v w d (Ok tt) p.serves

module _ (v u w : PortValue) (d vcpu i k : ℕ) (is : k ≡ word_at i) (answers : List Bool) (first : SoFar v u d vcpu i answers) where
  came : Came v u
  came = so_far_came v u d vcpu i answers first

  pub word_empty : (more : List Bool) → LeftEmpty v u vcpu i → PartWent {A = Unit {0}} u w d (EmptiesWord vcpu k u w more (Ok tt)) (Ok tt) → LeftAs (Met u w) (Vcpu vcpu k) (λ x. x == 0) → LeftEmpty v w vcpu (i + 1)
  word_empty more before second here j low =
      elim (cases_eq j i) [
        | inl at ↦ subst (λ h. LeftAs (Met v w) (Vcpu vcpu h) (λ x. x == 0)) (is ∙ ap word_at (sym at)) (left_after v u w (Vcpu vcpu k) (λ x. x == 0) came here)
        | inr away ↦ left_before v u w (Vcpu vcpu (word_at j)) (λ x. x == 0) (destroy_came {A = Unit {0}} u w d (Ok tt) second.serves) (before j (let a : j ≢ i = away in omega arith))
      ]

  pub word_more : (more : List Bool) → PartWent {A = Unit {0}} u w d (EmptiesWord vcpu k u w more (Ok tt)) (Ok tt) → SoFar v w d vcpu (i + 1) (more ++ answers)
  word_more more second =
      went_then v u w d tt (Ok tt) first second (words.EmptiesWords.one_more i u w answers more (Ok tt) first.course (subst (λ h. EmptiesWord vcpu h u w more (Ok tt)) is second.course))

  pub word_stopped : (e : Stop) (more : List Bool) → i < 34 → PartWent {A = Unit {0}} u w d (EmptiesWord vcpu k u w more (Err e)) (Err e) → PartWent {A = Unit {0}} v w d (EmptiesTo vcpu v w (more ++ answers) (Err e)) (Err e)
  word_stopped e more few second =
      went_then v u w d tt (Err e) first second
      (i + 1, omega (arith, few), words.EmptiesWords.one_more i u w answers more (Err e) first.course (subst (λ h. EmptiesWord vcpu h u w more (Err e)) is second.course))
