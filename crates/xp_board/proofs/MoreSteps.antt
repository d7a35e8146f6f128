-- Facts over a list of steps, with one step more.
use Rattle.std.proofs.Common.{◌≡◌, ◌≢◌, ℕ, ◌≤◌, ◌&&◌, nat_le, if◌then◌else◌, Bool, true, false, List, [], ◌∷◌, length, Option, Some, None, IsTrue, refl, ◌⊎◌, inl, inr, arith}
use Rattle.std.proofs.lemmas.Bool.{or_cases, and_parts, and_from, cases_Bool}
use Rattle.std.proofs.lemmas.Bool.Decides.{nat_tests}
use Rattle.xp_words.specs.declared.place.Place.{Place}
use Rattle.xp_words.specs.Places.{Sizes, place_at}
use Rattle.xp_board.specs.declared.holdings.Made.{Made}
use Rattle.xp_board.specs.Lists.{EachOf}
use Rattle.xp_board.specs.Steps.{is_at, left_of, some_step, some_since, last_since, EachStep, EachSince, steps_before}
use Rattle.xp_board.proofs.PlaceTests.{is_same-refl, is_same-by, same_place, is_same-other}
use Rattle.xp_board.proofs.StepLists.{head_or_tail, since_within}
use Rattle.xp_board.proofs.HandLists.{EachOf-if}

-- what stands at p was found by the newest step, or before
pub some_since-cases : (z : Sizes) (n : ℕ) (p : Place) (test : ℕ → Bool) (x : Made) (xs : List Made) → IsTrue (some_since z n p test (x ∷ xs)) →
    ((place_at z x.step.place ≡ p) × IsTrue (test (left_of x))) ⊎ IsTrue (some_since z n p test xs)
some_since-cases z n p test x xs h =
    elim (head_or_tail (λ k y. nat_le n k && (is_at z p y && test (left_of y))) x xs h) [
      | inl new ↦
          let a = and_parts (nat_le n (length xs)) (is_at z p x && test (left_of x)) new in
          let b = and_parts (is_at z p x) (test (left_of x)) a.1 in
          inl (same_place (place_at z x.step.place) p b.0, b.1)
      | inr old ↦ inr old
    ]

-- ---- the word found last
last_if : (a b : Bool) (v w : ℕ) (o : Option ℕ) → (if a then (if b then Some v else o) else None) ≡ Some w → ((b ≡ true) × (v ≡ w)) ⊎ ((b ≡ false) × (o ≡ Some w))
last_if true true v w o h = inl (refl, (let k : Some v ≡ Some w = h in cc))
last_if true false v w o h = inr (refl, h)
last_if false b v w o h = absurd cc

pub last_since-cases : (z : Sizes) (n : ℕ) (p : Place) (w : ℕ) (x : Made) (xs : List Made) → last_since z n p (x ∷ xs) ≡ Some w →
    ((place_at z x.step.place ≡ p) × (left_of x ≡ w)) ⊎ ((place_at z x.step.place ≢ p) × (last_since z n p xs ≡ Some w))
unfolding last_since
last_since-cases z n p w x xs h =
    elim (last_if (nat_le n (length xs)) (is_at z p x) (left_of x) w (last_since z n p xs) h) [
      | inl new ↦ inl (same_place (place_at z x.step.place) p new.0, new.1)
      | inr old ↦ inr ((λ e. let k = is_same-by (place_at z x.step.place) p e in let o = old.0 in cc), old.1)
    ]

pub last_since-here : (z : Sizes) (n : ℕ) (p : Place) (x : Made) (xs : List Made) → n ≤ length xs → place_at z x.step.place ≡ p → last_since z n p (x ∷ xs) ≡ Some (left_of x)
unfolding last_since
last_since-here z n p x xs b e = let t : nat_le n (length xs) ≡ true = grind (arith, nat_tests) in rw (t, e, is_same-refl p) refl

pub last_since-elsewhere : (z : Sizes) (n : ℕ) (p : Place) (x : Made) (xs : List Made) → n ≤ length xs → place_at z x.step.place ≢ p → last_since z n p (x ∷ xs) ≡ last_since z n p xs
unfolding last_since
last_since-elsewhere z n p x xs b e = let t : nat_le n (length xs) ≡ true = grind (arith, nat_tests) in rw (t, is_same-other (place_at z x.step.place) p e) refl

-- ---- each step
pub EachStep-map : (P Q : ℕ → Made → Type 0) (xs : List Made) → ((k : ℕ) (x : Made) → P k x → Q k x) → EachStep P xs → EachStep Q xs
unfolding EachStep
EachStep-map P Q [] f h = tt
EachStep-map P Q (x ∷ xs) f h = (f (length xs) x h.0, EachStep-map P Q xs f h.1)

-- another property of the words
pub EachSince-map : (z : Sizes) (n : ℕ) (p : Place) (P Q : ℕ → Type 0) (xs : List Made) → ((w : ℕ) → P w → Q w) → EachSince z n p P xs → EachSince z n p Q xs
EachSince-map z n p P Q xs f h =
    EachStep-map (λ k x. IsTrue (nat_le n k && is_at z p x) → P x.found × P (left_of x)) (λ k x. IsTrue (nat_le n k && is_at z p x) → Q x.found × Q (left_of x)) xs
    (λ k x g t. (f x.found (g t).0, f (left_of x) (g t).1)) h

-- one step more
pub EachSince-more : (z : Sizes) (n : ℕ) (p : Place) (P : ℕ → Type 0) (x : Made) (xs : List Made) →
    (place_at z x.step.place ≡ p → P x.found × P (left_of x)) → EachSince z n p P xs → EachSince z n p P (x ∷ xs)
unfolding EachStep
EachSince-more z n p P x xs f h =
    ((λ t. f (same_place (place_at z x.step.place) p (and_parts (nat_le n (length xs)) (is_at z p x) t).1)), h)

-- ---- the steps before one

pub EachOf-before : (z : Sizes) (p : Place) (test : ℕ → Bool) (P : Made → Type 0) (xs : List Made) → EachOf P xs → EachOf P (steps_before z p test xs)
unfolding EachOf steps_before
EachOf-before z p test P [] h = tt
EachOf-before z p test P (x ∷ xs) h = EachOf-if P (is_at z p x && test (left_of x)) xs (steps_before z p test xs) h.1 (EachOf-before z p test P xs h.1)

first_if : (b : Bool) (xs ys : List Made) → (b ≡ true) ⊎ ((if b then xs else ys) ≡ ys)
first_if true xs ys = inl refl
first_if false xs ys = inr refl

pub steps_before-cases : (z : Sizes) (p : Place) (test : ℕ → Bool) (x : Made) (xs : List Made) →
    ((place_at z x.step.place ≡ p) × IsTrue (test (left_of x))) ⊎ (steps_before z p test (x ∷ xs) ≡ steps_before z p test xs)
unfolding steps_before
steps_before-cases z p test x xs =
    elim (first_if (is_at z p x && test (left_of x)) xs (steps_before z p test xs)) [
      | inl e ↦ (let b = and_parts (is_at z p x) (test (left_of x)) e in inl (same_place (place_at z x.step.place) p b.0, b.1))
      | inr e ↦ inr e
    ]

-- ---- one that passes, of which all have something
pub EachSince-some : (z : Sizes) (n : ℕ) (p : Place) (P : ℕ → Type 0) (test : ℕ → Bool) (xs : List Made) → EachSince z n p P xs → IsTrue (some_since z n p test xs) →
    (w : ℕ) × P w × IsTrue (test w)
unfolding EachStep some_step
EachSince-some z n p P test [] h t = absurd cc
EachSince-some z n p P test (x ∷ xs) h t =
    elim (or_cases (nat_le n (length xs) && (is_at z p x && test (left_of x))) (some_since z n p test xs) t) [
      | inl new ↦
          let a = and_parts (nat_le n (length xs)) (is_at z p x && test (left_of x)) new in
          let b = and_parts (is_at z p x) (test (left_of x)) a.1 in
          (left_of x, (h.0 (and_from (nat_le n (length xs)) (is_at z p x) a.0 b.0)).1, b.1)
      | inr old ↦ EachSince-some z n p P test xs h.1 old
    ]

-- the same, where each word that passes and has it makes Q
pub since_each : (z : Sizes) (n : ℕ) (p : Place) (test : ℕ → Bool) (P : ℕ → Type 0) (Q : Type 0) (steps : List Made) →
    EachSince z n p P steps → IsTrue (some_since z n p test steps) → ((w : ℕ) → test w ≡ true → P w → Q) → Q
since_each z n p test P Q steps each some f = let one = EachSince-some z n p P test steps each some in f one.0 one.2 one.1

-- from a later step on fewer words were found
pub since_later : (z : Sizes) (n o : ℕ) (p : Place) (P : ℕ → Type 0) (steps : List Made) → n ≤ o → EachSince z n p P steps → EachSince z o p P steps
unfolding EachStep
since_later z n o p P [] below each = tt
since_later z n o p P (x ∷ xs) below each =
    ((λ t. each.0 (let a = and_parts (nat_le o (length xs)) (is_at z p x) t in let l = a.0 in let r = a.1 in let e : nat_le n (length xs) ≡ true = grind (arith, nat_tests) in grind arith)), since_later z n o p P xs below each.1)

-- ---- no step has a number from n on
pub EachSince-none : (z : Sizes) (n : ℕ) (p : Place) (P : ℕ → Type 0) (xs : List Made) → length xs ≤ n → EachSince z n p P xs
unfolding EachStep
EachSince-none z n p P [] l = tt
EachSince-none z n p P (x ∷ xs) l =
    ((λ t. absurd (let a = (and_parts (nat_le n (length xs)) (is_at z p x) t).0 in let k : n ≤ length xs = grind (arith, nat_tests) in omega arith)), EachSince-none z n p P xs (omega arith))

pub none_last : (z : Sizes) (n : ℕ) (p : Place) (w : ℕ) (xs : List Made) → length xs ≤ n → last_since z n p xs ≡ Some w → ⊥
unfolding last_since
none_last z n p w [] l h = cc
none_last z n p w (x ∷ xs) l h = let k : nat_le n (length xs) ≡ false = grind (arith, nat_tests) in let q = rw k at h in cc

pub none_since : (z : Sizes) (n : ℕ) (p : Place) (test : ℕ → Bool) (xs : List Made) → length xs ≤ n → some_since z n p test xs ≡ false
none_since z n p test xs l =
    elim (cases_Bool (some_since z n p test xs)) [
      | inl found ↦ absurd (let w = since_within z n p test xs found in omega arith)
      | inr none ↦ none
    ]
