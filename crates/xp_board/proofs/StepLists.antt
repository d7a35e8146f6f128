-- What is known of a list of steps that has one more.
use Rattle.std.proofs.Common.{◌≡◌, ℕ, ◌<◌, ◌≤◌, ◌&&◌, ◌⊎◌, nat_lt, nat_le, Bool, true, false, List, [], ◌∷◌, length, IsTrue, refl, inl, inr, arith, subst, ap, sym, ◌∙◌}
use Rattle.std.proofs.lemmas.Bool.{and_parts, or_cases, cases_Bool}
use Rattle.std.proofs.lemmas.Bool.Decides.{nat_tests}
use Rattle.xp_words.specs.declared.place.Place.{Place}
use Rattle.xp_words.specs.Places.{Sizes, place_at}
use Rattle.xp_board.specs.declared.holdings.Made.{Made}
use Rattle.xp_board.specs.Steps.{EachStep, EachSince, is_at, left_of, some_step, some_since, some_before, some_between}
use Rattle.xp_board.proofs.PlaceTests.{same_place}

-- the head passes, or one of the others
pub head_or_tail : (test : ℕ → Made → Bool) (x : Made) (xs : List Made) → IsTrue (some_step test (x ∷ xs)) →
    IsTrue (test (length xs) x) ⊎ IsTrue (some_step test xs)
unfolding some_step
head_or_tail test x xs h = or_cases (test (length xs) x) (some_step test xs) h

pub one_more : (test : ℕ → Made → Bool) (x : Made) (xs : List Made) → IsTrue (some_step test xs) → IsTrue (some_step test (x ∷ xs))
unfolding some_step
one_more test x xs h = grind arith

-- the step is at that place, and the word that it left passes
pub record Hit (z : Sizes) (p : Place) (test : ℕ → Bool) (x : Made) : Type 0 where
  pub place : place_at z x.step.place ≡ p
  pub passes : test (left_of x) ≡ true

hit : (z : Sizes) (p : Place) (test : ℕ → Bool) (x : Made) → (is_at z p x && test (left_of x)) ≡ true → Hit z p test x
hit z p test x h =
    let a = and_parts (is_at z p x) (test (left_of x)) h in
    record { place = same_place (place_at z x.step.place) p a.0; passes = a.1 }

-- where that step was the newest and what it left stands there, this passes
pub hit_left : (z : Sizes) (m : Place → ℕ) (p : Place) (test : ℕ → Bool) (x : Made) → left_of x ≡ m (place_at z x.step.place) → Hit z p test x → test (m p) ≡ true
hit_left z m p test x left a = subst (λ q. test (m q) ≡ true) a.place (ap test (sym left) ∙ a.passes)

from_le : (a b : ℕ) → nat_le a b ≡ true → a ≤ b
from_le a b h = grind (arith, nat_tests)

pub from_lt : (a b : ℕ) → nat_lt a b ≡ true → a < b
from_lt a b h = grind (arith, nat_tests)

-- ---- one more step at the head
pub since_more : (z : Sizes) (n : ℕ) (p : Place) (test : ℕ → Bool) (x : Made) (xs : List Made) → IsTrue (some_since z n p test (x ∷ xs)) →
    (Hit z p test x × (n ≤ length xs)) ⊎ IsTrue (some_since z n p test xs)
since_more z n p test x xs h =
    elim (head_or_tail (λ k y. nat_le n k && (is_at z p y && test (left_of y))) x xs h) [
      | inl here ↦ (let a = and_parts (nat_le n (length xs)) (is_at z p x && test (left_of x)) here in inl (hit z p test x a.1, from_le n (length xs) a.0))
      | inr there ↦ inr there
    ]

pub before_more : (z : Sizes) (n : ℕ) (p : Place) (test : ℕ → Bool) (x : Made) (xs : List Made) → IsTrue (some_before z n p test (x ∷ xs)) →
    (Hit z p test x × (length xs < n)) ⊎ IsTrue (some_before z n p test xs)
before_more z n p test x xs h =
    elim (head_or_tail (λ k y. nat_lt k n && (is_at z p y && test (left_of y))) x xs h) [
      | inl here ↦ (let a = and_parts (nat_lt (length xs) n) (is_at z p x && test (left_of x)) here in inl (hit z p test x a.1, from_lt (length xs) n a.0))
      | inr there ↦ inr there
    ]

pub between_more : (z : Sizes) (n o : ℕ) (p : Place) (test : ℕ → Bool) (x : Made) (xs : List Made) → IsTrue (some_between z n o p test (x ∷ xs)) →
    (Hit z p test x × (length xs < o)) ⊎ IsTrue (some_between z n o p test xs)
between_more z n o p test x xs h =
    elim (head_or_tail (λ k y. (nat_le n k && nat_lt k o) && (is_at z p y && test (left_of y))) x xs h) [
      | inl here ↦
          (let a = and_parts (nat_le n (length xs) && nat_lt (length xs) o) (is_at z p x && test (left_of x)) here in
          let b = and_parts (nat_le n (length xs)) (nat_lt (length xs) o) a.0 in
          inl (hit z p test x a.1, from_lt (length xs) o b.1))
      | inr there ↦ inr there
    ]

-- ---- where the numbers are
pub since_within : (z : Sizes) (n : ℕ) (p : Place) (test : ℕ → Bool) (xs : List Made) → IsTrue (some_since z n p test xs) → n < length xs
unfolding some_step
since_within z n p test [] h = absurd (cc)
since_within z n p test (x ∷ xs) h =
    elim (since_more z n p test x xs h) [
      | inl here ↦ (let b = here.1 in omega arith)
      | inr there ↦ (let r = since_within z n p test xs there in omega arith)
    ]

-- what was not found before, and is now, this step found
pub since_false : (z : Sizes) (n : ℕ) (p : Place) (test : ℕ → Bool) (x : Made) (xs : List Made) → some_since z n p test xs ≡ false →
    Hit z p test x ⊎ (some_since z n p test (x ∷ xs) ≡ false)
since_false z n p test x xs h =
    elim (cases_Bool (some_since z n p test (x ∷ xs))) [
      | inl yes_now ↦
          elim (since_more z n p test x xs yes_now) [
            | inl here ↦ inl here.0
            | inr there ↦ absurd (cc)
          ]
      | inr not_now ↦ inr not_now
    ]

-- ---- what each word found or left there meets, one of them that was found meets
at_zero : (z : Sizes) (p : Place) (k : ℕ) (x : Made) → is_at z p x ≡ true → IsTrue (nat_le 0 k && is_at z p x)
at_zero z p k x h = rw h (grind (arith, nat_tests))

found_step : {Q : Type 0} (z : Sizes) (p : Place) (test : ℕ → Bool) (P : ℕ → Type 0) (some : ℕ → Made → Bool) (xs : List Made) →
    ((k : ℕ) (x : Made) → some k x ≡ true → (is_at z p x ≡ true) × (test (left_of x) ≡ true)) → EachSince z 0 p P xs →
    IsTrue (some_step some xs) → ((w : ℕ) → test w ≡ true → P w → Q) → Q
unfolding EachStep some_step
found_step z p test P some [] tells each h goal = absurd (cc)
found_step z p test P some (x ∷ xs) tells each h goal =
    elim (head_or_tail some x xs h) [
      | inl here ↦ (let t = tells (length xs) x here in goal (left_of x) t.1 ((each.0 (at_zero z p (length xs) x t.0)).1))
      | inr there ↦ found_step z p test P some xs tells each.1 there goal
    ]

pub found_since : {Q : Type 0} (z : Sizes) (n : ℕ) (p : Place) (test : ℕ → Bool) (P : ℕ → Type 0) (xs : List Made) → EachSince z 0 p P xs →
    IsTrue (some_since z n p test xs) → ((w : ℕ) → test w ≡ true → P w → Q) → Q
found_since z n p test P xs each h goal =
    found_step z p test P (λ k x. nat_le n k && (is_at z p x && test (left_of x))) xs
    (λ k x t. let a = and_parts (nat_le n k) (is_at z p x && test (left_of x)) t in and_parts (is_at z p x) (test (left_of x)) a.1) each h goal

pub found_before : {Q : Type 0} (z : Sizes) (n : ℕ) (p : Place) (test : ℕ → Bool) (P : ℕ → Type 0) (xs : List Made) → EachSince z 0 p P xs →
    IsTrue (some_before z n p test xs) → ((w : ℕ) → test w ≡ true → P w → Q) → Q
found_before z n p test P xs each h goal =
    found_step z p test P (λ k x. nat_lt k n && (is_at z p x && test (left_of x))) xs
    (λ k x t. let a = and_parts (nat_lt k n) (is_at z p x && test (left_of x)) t in and_parts (is_at z p x) (test (left_of x)) a.1) each h goal

pub found_between : {Q : Type 0} (z : Sizes) (n o : ℕ) (p : Place) (test : ℕ → Bool) (P : ℕ → Type 0) (xs : List Made) → EachSince z 0 p P xs →
    IsTrue (some_between z n o p test xs) → ((w : ℕ) → test w ≡ true → P w → Q) → Q
found_between z n o p test P xs each h goal =
    found_step z p test P (λ k x. (nat_le n k && nat_lt k o) && (is_at z p x && test (left_of x))) xs
    (λ k x t. let a = and_parts (nat_le n k && nat_lt k o) (is_at z p x && test (left_of x)) t in and_parts (is_at z p x) (test (left_of x)) a.1) each h goal

-- ---- ranges of numbers
-- a step between two numbers is one from the first on
pub between_since : (z : Sizes) (n o : ℕ) (p : Place) (test : ℕ → Bool) (xs : List Made) → IsTrue (some_between z n o p test xs) → IsTrue (some_since z n p test xs)
unfolding some_step
between_since z n o p test [] h = absurd (cc)
between_since z n o p test (x ∷ xs) h =
    elim (head_or_tail (λ k y. (nat_le n k && nat_lt k o) && (is_at z p y && test (left_of y))) x xs h) [
      | inl here ↦
          (let a = and_parts (nat_le n (length xs) && nat_lt (length xs) o) (is_at z p x && test (left_of x)) here in
          let b = and_parts (nat_le n (length xs)) (nat_lt (length xs) o) a.0 in
          rw (b.0, a.1) refl)
      | inr there ↦ one_more (λ k y. nat_le n k && (is_at z p y && test (left_of y))) x xs (between_since z n o p test xs there)
    ]

wider_lt : (k o q : ℕ) → o ≤ q → nat_lt k o ≡ true → nat_lt k q ≡ true
wider_lt k o q l h = grind (arith, nat_tests)

-- and one between the first and a later second
pub between_wider : (z : Sizes) (n o q : ℕ) (p : Place) (test : ℕ → Bool) (xs : List Made) → o ≤ q → IsTrue (some_between z n o p test xs) → IsTrue (some_between z n q p test xs)
unfolding some_step
between_wider z n o q p test [] l h = absurd (cc)
between_wider z n o q p test (x ∷ xs) l h =
    elim (head_or_tail (λ k y. (nat_le n k && nat_lt k o) && (is_at z p y && test (left_of y))) x xs h) [
      | inl here ↦
          (let a = and_parts (nat_le n (length xs) && nat_lt (length xs) o) (is_at z p x && test (left_of x)) here in
          let b = and_parts (nat_le n (length xs)) (nat_lt (length xs) o) a.0 in
          let w = wider_lt (length xs) o q l b.1 in
          rw (b.0, w, a.1) refl)
      | inr there ↦ one_more (λ k y. (nat_le n k && nat_lt k q) && (is_at z p y && test (left_of y))) x xs (between_wider z n o q p test xs l there)
    ]
