-- The steps of a vCPU: those of another vCPU stay, and the vCPU that acts has one more.
use Rattle.std.proofs.Common.{◌≡◌, ◌≢◌, ℕ, suc, ◌≤◌, ◌&&◌, nat_lt, Bool, List, ◌∷◌, length, Some, IsTrue, sym, ap, subst, ◌∙◌, ◌⊎◌, inl, inr, arith}
use Rattle.xp_words.specs.declared.place.Place.{Place}
use Rattle.xp_words.specs.Places.{Sizes, is_place, place_at}
use Rattle.xp_board.specs.declared.holdings.Made.{Made}
use Rattle.xp_board.specs.Lists.{EachOf}
use Rattle.xp_board.specs.Steps.{is_at, left_of, some_since, some_before, last_since, EachSince, steps_before}
use Rattle.xp_board.specs.Readings.{clock_value}
use Rattle.xp_board.proofs.HandLists.{EachOf-more}
use Rattle.xp_board.proofs.StepLists.{one_more}
use Rattle.xp_board.proofs.MoreSteps.{some_since-cases, last_since-cases, EachSince-more, steps_before-cases}

-- a step at p that found the word that stood there, and left that which stands there
pub record Added (z : Sizes) (m m2 : Place → ℕ) (x : Made) (p : Place) : Type 0 where
  pub place : place_at z x.step.place ≡ p
  pub real : IsTrue (is_place z p)
  pub found : x.found ≡ m p
  pub left : left_of x ≡ m2 p

pub data Grown (z : Sizes) (m m2 : Place → ℕ) (xs ys : List Made) : Type 0 where
  stayed : ys ≡ xs → Grown z m m2 xs ys
  added : (x : Made) (p : Place) → Added z m m2 x p → ys ≡ x ∷ xs → Grown z m m2 xs ys

pub grown_each : (z : Sizes) (m m2 : Place → ℕ) (xs ys : List Made) (n : ℕ) (p : Place) (P : ℕ → Type 0) → Grown z m m2 xs ys →
    (IsTrue (is_place z p) → P (m p)) → (IsTrue (is_place z p) → P (m2 p)) → EachSince z n p P xs → EachSince z n p P ys
grown_each z m m2 xs ys n p P (stayed e) was is h = rw e h
grown_each z m m2 xs ys n p P (added x q a e) was is h =
    rw e
    (EachSince-more z n p P x xs
    (λ at.
    let k = sym a.place ∙ at in
    let r = subst (λ y. IsTrue (is_place z y)) k a.real in
    (subst P (sym (a.found ∙ ap m k)) (was r), subst P (sym (a.left ∙ ap m2 k)) (is r))) h)

pub grown_some : (z : Sizes) (m m2 : Place → ℕ) (xs ys : List Made) (n : ℕ) (p : Place) (test : ℕ → Bool) → Grown z m m2 xs ys →
    IsTrue (some_since z n p test ys) → IsTrue (test (m2 p)) ⊎ IsTrue (some_since z n p test xs)
grown_some z m m2 xs ys n p test (stayed e) h = inr (rw (← e) h)
grown_some z m m2 xs ys n p test (added x q a e) h =
    elim (some_since-cases z n p test x xs (subst (λ l. IsTrue (some_since z n p test l)) e h)) [
      | inl new ↦ inl (ap test (sym (a.left ∙ ap m2 (sym a.place ∙ new.0))) ∙ new.1)
      | inr old ↦ inr old
    ]

-- the word last found or left at p is that which stands there, where the newest step was at p
pub grown_last : (z : Sizes) (m m2 : Place → ℕ) (xs ys : List Made) (n : ℕ) (p : Place) (w : ℕ) → Grown z m m2 xs ys →
    last_since z n p ys ≡ Some w → (m2 p ≡ w) ⊎ (last_since z n p xs ≡ Some w)
grown_last z m m2 xs ys n p w (stayed e) h = inr (ap (last_since z n p) (sym e) ∙ h)
grown_last z m m2 xs ys n p w (added x q a e) h =
    elim (last_since-cases z n p w x xs (ap (last_since z n p) (sym e) ∙ h)) [
      | inl new ↦ inl (sym (a.left ∙ ap m2 (sym a.place ∙ new.0)) ∙ new.1)
      | inr old ↦ inr old.1
    ]

-- the same for the vCPU that acts: else it was elsewhere
pub added_last : (z : Sizes) (m m2 : Place → ℕ) (x : Made) (q : Place) (xs ys : List Made) (n : ℕ) (p : Place) (w : ℕ) → Added z m m2 x q → ys ≡ x ∷ xs →
    last_since z n p ys ≡ Some w → (m2 p ≡ w) ⊎ ((p ≢ q) × (last_since z n p xs ≡ Some w))
added_last z m m2 x q xs ys n p w a e h =
    elim (last_since-cases z n p w x xs (ap (last_since z n p) (sym e) ∙ h)) [
      | inl new ↦ inl (sym (a.left ∙ ap m2 (sym a.place ∙ new.0)) ∙ new.1)
      | inr old ↦ inr ((λ k. old.0 (a.place ∙ sym k)), old.1)
    ]

pub grown_before : (z : Sizes) (m m2 : Place → ℕ) (xs ys : List Made) (p : Place) (test : ℕ → Bool) → Grown z m m2 xs ys →
    IsTrue (test (m2 p)) ⊎ (steps_before z p test ys ≡ steps_before z p test xs)
grown_before z m m2 xs ys p test (stayed e) = inr (ap (steps_before z p test) e)
grown_before z m m2 xs ys p test (added x q a e) =
    elim (steps_before-cases z p test x xs) [
      | inl new ↦ inl (ap test (sym (a.left ∙ ap m2 (sym a.place ∙ new.0))) ∙ new.1)
      | inr old ↦ inr (ap (steps_before z p test) e ∙ old)
    ]

pub grown_clock : (z : Sizes) (m m2 : Place → ℕ) (xs ys : List Made) (P : ℕ → Type 0) → Grown z m m2 xs ys →
    ((p : Place) → P (clock_value p (m p))) → ((p : Place) → P (clock_value p (m2 p))) →
    EachOf (λ x. P (clock_value (place_at z x.step.place) x.found) × P (clock_value (place_at z x.step.place) (left_of x))) xs →
    EachOf (λ x. P (clock_value (place_at z x.step.place) x.found) × P (clock_value (place_at z x.step.place) (left_of x))) ys
grown_clock z m m2 xs ys P (stayed e) was is h = rw e h
grown_clock z m m2 xs ys P (added x q a e) was is h =
    rw e
    (EachOf-more (λ y. P (clock_value (place_at z y.step.place) y.found) × P (clock_value (place_at z y.step.place) (left_of y))) x xs
    (rw (a.place, a.left, a.found) (was q, is q)) h)

pub grown_longer : (z : Sizes) (m m2 : Place → ℕ) (xs ys : List Made) → Grown z m m2 xs ys → length xs ≤ length ys
grown_longer z m m2 xs ys (stayed e) = let k = ap length e in omega arith
grown_longer z m m2 xs ys (added x p a e) = let k : length ys ≡ suc (length xs) = ap length e in omega arith

-- what was found before some step was found before it
pub grown_once : (z : Sizes) (m m2 : Place → ℕ) (xs ys : List Made) → Grown z m m2 xs ys → (n : ℕ) (p : Place) (test : ℕ → Bool) →
    IsTrue (some_before z n p test xs) → IsTrue (some_before z n p test ys)
grown_once z m m2 xs ys (stayed e) n p test h = subst (λ l. IsTrue (some_before z n p test l)) (sym e) h
grown_once z m m2 xs ys (added x q a e) n p test h =
    subst (λ l. IsTrue (some_before z n p test l)) (sym e) (one_more (λ k y. nat_lt k n && (is_at z p y && test (left_of y))) x xs h)

pub grown_places : (z : Sizes) (m m2 : Place → ℕ) (xs ys : List Made) → Grown z m m2 xs ys →
    EachOf (λ x. IsTrue (is_place z (place_at z x.step.place))) xs → EachOf (λ x. IsTrue (is_place z (place_at z x.step.place))) ys
grown_places z m m2 xs ys (stayed e) h = rw e h
grown_places z m m2 xs ys (added x p a e) h = rw e (EachOf-more (λ y. IsTrue (is_place z (place_at z y.step.place))) x xs (subst (λ q. IsTrue (is_place z q)) (sym a.place) a.real) h)
