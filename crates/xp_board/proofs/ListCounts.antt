-- The lists of a hand.
use Rattle.std.proofs.Common.{◌≡◌, ◌≢◌, ℕ, ◌+◌, ◌<◌, ◌≤◌, List, [], ◌∷◌, Option, Some, None, refl, sym, ◌∙◌, ap, arith, inl, inr}
use Rattle.std.proofs.lemmas.Bool.{cases_eq}
use Rattle.xp_board.specs.Lists.{one_at, times_by, first_by, without_by, EachOf}
use Rattle.xp_board.proofs.Sums.{when_eq}
use Rattle.xp_board.proofs.HandLists.{EachOf-map, EachOf-first, first-key, first-some, EachOf-without}
use Rattle.xp_board.specs.declared.holdings.Reference.{Reference}
use Rattle.xp_board.specs.Hands.{refs_to}
use Rattle.xp_words.proofs.Shared.{eq_false as when_ne}

pub times_by-cons : {A : Type 0} (key : A → ℕ) (g : ℕ) (x : A) (xs : List A) → times_by key g (x ∷ xs) ≡ one_at g (key x) + times_by key g xs
unfolding times_by
times_by-cons key g x xs = refl

-- the newest one goes out
pub times_by-without : {A : Type 0} (key : A → ℕ) (g f : ℕ) (xs : List A) → 0 < times_by key f xs →
    times_by key g (without_by key f xs) + one_at g f ≡ times_by key g xs
unfolding times_by without_by
times_by-without key g f [] b = absurd (omega arith)
times_by-without key g f (x ∷ xs) b =
    elim (cases_eq (key x) f) [
      | inl at ↦ rw (when_eq (key x) f at) (let k : one_at g (key x) ≡ one_at g f = ap (one_at g) at in omega arith)
      | inr off ↦
          let e = when_ne (key x) f off in
          let inside : 0 < times_by key f xs = let n : 0 < 0 + times_by key f xs = rw e at b in omega arith in
          let rest = times_by-without key g f xs inside in
          rw e (omega arith)
    ]

pub EachOf-both : {A : Type 0} (P Q : A → Type 0) (xs : List A) → EachOf P xs → EachOf Q xs → EachOf (λ x. P x × Q x) xs
unfolding EachOf
EachOf-both P Q [] a b = tt
EachOf-both P Q (x ∷ xs) a b = ((a.0, b.0), EachOf-both P Q xs a.1 b.1)

first_by-further : {A : Type 0} (key : A → ℕ) (x : A) (xs : List A) → ((g : ℕ) → times_by key g (x ∷ xs) ≤ 1) → (e : A) →
    first_by key (key e) xs ≡ Some e → first_by key (key e) (x ∷ xs) ≡ Some e
unfolding first_by times_by
first_by-further key x xs few e k =
    elim (cases_eq (key x) (key e)) [
      | inl at ↦
          let some = first-some key (key e) e xs k in
          let one : one_at (key e) (key x) ≡ 1 = rw (when_eq (key x) (key e) at) in
          let most = few (key e) in
          absurd (omega arith)
      | inr off ↦ rw (when_ne (key x) (key e) off) k
    ]

-- where no number stands twice, each element is the first one of its number
pub EachOf-once : {A : Type 0} (key : A → ℕ) (xs : List A) → ((g : ℕ) → times_by key g xs ≤ 1) → EachOf (λ e. first_by key (key e) xs ≡ Some e) xs
unfolding EachOf first_by
EachOf-once key [] few = tt
EachOf-once key (x ∷ xs) few =
    let rest = EachOf-once key xs (λ g. let most = few g in let here = times_by-cons key g x xs in omega arith) in
    (rw (when_eq (key x) (key x) refl), EachOf-map (λ e. first_by key (key e) xs ≡ Some e) _ xs (first_by-further key x xs few) rest)

-- ---- the elements of other numbers
pub first_by-none : {A : Type 0} (key : A → ℕ) (g : ℕ) (xs : List A) → times_by key g xs ≡ 0 → first_by key g xs ≡ None
unfolding first_by times_by
first_by-none key g [] e = refl
first_by-none key g (x ∷ xs) e =
    elim (cases_eq (key x) g) [
      | inl at ↦ let one : one_at g (key x) ≡ 1 = rw (when_eq (key x) g at) in absurd (omega arith)
      | inr off ↦ rw (when_ne (key x) g off) (first_by-none key g xs (omega arith))
    ]

pub times_by-cons_here : {A : Type 0} (key : A → ℕ) (f : ℕ) (x : A) (xs : List A) → key x ≡ f → times_by key f (x ∷ xs) ≡ 1 + times_by key f xs
unfolding times_by
times_by-cons_here key f x xs e = let one : one_at f (key x) ≡ 1 = rw (when_eq (key x) f e) in omega arith

pub times_by-cons_other : {A : Type 0} (key : A → ℕ) (g : ℕ) (x : A) (xs : List A) → key x ≢ g → times_by key g (x ∷ xs) ≡ times_by key g xs
unfolding times_by
times_by-cons_other key g x xs n = let none : one_at g (key x) ≡ 0 = rw (when_ne (key x) g n) in omega arith

pub times_by-without_other : {A : Type 0} (key : A → ℕ) (g f : ℕ) (xs : List A) → g ≢ f → times_by key g (without_by key f xs) ≡ times_by key g xs
unfolding times_by without_by
times_by-without_other key g f [] n = refl
times_by-without_other key g f (x ∷ xs) n =
    elim (cases_eq (key x) f) [
      | inl at ↦ let none : one_at g (key x) ≡ 0 = rw (when_ne (key x) g (λ e. n (sym e ∙ at))) in rw (when_eq (key x) f at) (omega arith)
      | inr off ↦ let rest = times_by-without_other key g f xs n in rw (when_ne (key x) f off) (omega arith)
    ]

pub first_by-cons_other : {A : Type 0} (key : A → ℕ) (g : ℕ) (x : A) (xs : List A) → key x ≢ g → first_by key g (x ∷ xs) ≡ first_by key g xs
unfolding first_by
first_by-cons_other key g x xs n = rw (when_ne (key x) g n) refl

pub first_by-cons_here : {A : Type 0} (key : A → ℕ) (g : ℕ) (x : A) (xs : List A) → key x ≡ g → first_by key g (x ∷ xs) ≡ Some x
unfolding first_by
first_by-cons_here key g x xs e = rw (when_eq (key x) g e) refl

pub first_by-without_other : {A : Type 0} (key : A → ℕ) (g f : ℕ) (xs : List A) → g ≢ f → first_by key g (without_by key f xs) ≡ first_by key g xs
unfolding first_by without_by
first_by-without_other key g f [] n = refl
first_by-without_other key g f (x ∷ xs) n =
    elim (cases_eq (key x) f) [
      | inl at ↦ rw (when_eq (key x) f at, when_ne (key x) g (λ e. n (sym e ∙ at))) refl
      | inr off ↦
          rw (when_ne (key x) f off)
          (elim (cases_eq (key x) g) [
            | inl here ↦ rw (when_eq (key x) g here) refl
            | inr there ↦ rw (when_ne (key x) g there) (first_by-without_other key g f xs n)
          ])
    ]

-- the numbers of the elements are in the list
pub EachOf-counted : {A : Type 0} (key : A → ℕ) (xs : List A) → EachOf (λ e. 0 < times_by key (key e) xs) xs
unfolding EachOf times_by
EachOf-counted key [] = tt
EachOf-counted key (x ∷ xs) = (
  let one : one_at (key x) (key x) ≡ 1 = rw (when_eq (key x) (key x) refl) in omega arith,
  EachOf-map (λ e. 0 < times_by key (key e) xs) _ xs (λ e k. omega arith) (EachOf-counted key xs),
)

-- a number that is not in the list is no element's
pub EachOf-apart : {A : Type 0} (key : A → ℕ) (f : ℕ) (xs : List A) → times_by key f xs ≡ 0 → EachOf (λ e. key e ≢ f) xs
unfolding EachOf times_by
EachOf-apart key f [] n = tt
EachOf-apart key f (x ∷ xs) n = (
  λ at. let one : one_at f (key x) ≡ 1 = rw (when_eq (key x) f at) in absurd (omega arith),
  EachOf-apart key f xs (omega arith),
)

pub times_by-without_one : {A : Type 0} (key : A → ℕ) (f : ℕ) (xs : List A) → times_by key f xs ≤ 1 → times_by key f (without_by key f xs) ≡ 0
unfolding times_by without_by
times_by-without_one key f [] few = refl
times_by-without_one key f (x ∷ xs) few =
    elim (cases_eq (key x) f) [
      | inl at ↦ let one : one_at f (key x) ≡ 1 = rw (when_eq (key x) f at) in rw (when_eq (key x) f at) (omega arith)
      | inr off ↦
          let none : one_at f (key x) ≡ 0 = rw (when_ne (key x) f off) in
          let rest = times_by-without_one key f xs (omega arith) in
          rw (when_ne (key x) f off) (omega arith)
    ]

pub first_by-absent : {A : Type 0} (key : A → ℕ) (f : ℕ) (xs : List A) → first_by key f xs ≡ None → times_by key f xs ≡ 0
unfolding times_by first_by
first_by-absent key f [] none = refl
first_by-absent key f (x ∷ xs) none =
    elim (cases_eq (key x) f) [
      | inl at ↦ let k : Some x ≡ None = rw (when_eq (key x) f at) at none in absurd (cc)
      | inr off ↦
          let zero : one_at f (key x) ≡ 0 = rw (when_ne (key x) f off) in
          let rest = first_by-absent key f xs (rw (when_ne (key x) f off) at none) in
          omega arith
    ]

found_by : {A : Type 0} (key : A → ℕ) (f : ℕ) (xs : List A) (o : Option A) → first_by key f xs ≡ o → 0 < times_by key f xs → (e : A) × (first_by key f xs ≡ Some e)
found_by key f xs (Some e) at some = (e, at)
found_by key f xs None at some = let none = first_by-absent key f xs at in absurd (omega arith)

pub first_by-some : {A : Type 0} (key : A → ℕ) (f : ℕ) (xs : List A) → 0 < times_by key f xs → (e : A) × (first_by key f xs ≡ Some e)
first_by-some key f xs some = found_by key f xs (first_by key f xs) refl some

pub EachOf-found : {A : Type 0} (P : A → Type 0) (key : A → ℕ) (f : ℕ) (xs : List A) (e : A) → first_by key f xs ≡ Some e → EachOf P xs → (key e ≡ f) × P e
EachOf-found P key f xs e here each = (first-key key f e xs here, EachOf-first P key f e xs each here)

-- what is shown of an element may use that its number stands in the list
pub EachOf-there : {A : Type 0} (P Q : A → Type 0) (key : A → ℕ) (xs : List A) → ((e : A) → 0 < times_by key (key e) xs → P e → Q e) → EachOf P xs → EachOf Q xs
EachOf-there P Q key xs f h =
    EachOf-map (λ e. (0 < times_by key (key e) xs) × P e) Q xs (λ e k. f e k.0 k.1) (EachOf-both (λ e. 0 < times_by key (key e) xs) P xs (EachOf-counted key xs) h)

-- or that it is of another number, where no element is of that one
pub EachOf-absent : {A : Type 0} (P Q : A → Type 0) (key : A → ℕ) (g : ℕ) (xs : List A) → times_by key g xs ≡ 0 → ((e : A) → key e ≢ g → P e → Q e) → EachOf P xs → EachOf Q xs
EachOf-absent P Q key g xs none f h =
    EachOf-map (λ e. (key e ≢ g) × P e) Q xs (λ e k. f e k.0 k.1) (EachOf-both (λ e. key e ≢ g) P xs (EachOf-apart key g xs none) h)

-- so without the one element that has that number
pub EachOf-others : {A : Type 0} (P Q : A → Type 0) (key : A → ℕ) (g : ℕ) (xs : List A) → times_by key g xs ≤ 1 → ((e : A) → key e ≢ g → P e → Q e) →
    EachOf P xs → EachOf Q (without_by key g xs)
EachOf-others P Q key g xs few f h = EachOf-absent P Q key g (without_by key g xs) (times_by-without_one key g xs few) f (EachOf-without P key g xs h)

-- the newest reference is in hand
pub newest_held : (f : ℕ) (e : Reference) (xs : List Reference) → e.frame ≡ f → 0 < refs_to f (e ∷ xs)
newest_held f e xs is = let more = times_by-cons_here (λ (y : Reference). y.frame) f e xs is in omega (arith, more)
