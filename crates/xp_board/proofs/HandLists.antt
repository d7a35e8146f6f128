-- Lists of a hand: what holds of each element, and how often a number stands there.
use Rattle.std.proofs.Common.{◌≡◌, ℕ, zero, suc, ◌+◌, ◌<◌, ◌≤◌, ◌==◌, ◌⊎◌, inl, inr, Bool, true, false, List, [], ◌∷◌, take, refl, subst, arith, if◌then◌else◌, Option, Some, IsTrue}
use Rattle.std.proofs.lemmas.Bool.Decides.{nat_tests}
use Rattle.xp_board.specs.Lists.{one_at, times_by, first_by, without_by, changed_by, kept_of, EachOf, Member, some_of}
use Rattle.std.proofs.lemmas.Bool.{or_cases}
use Rattle.xp_board.proofs.Sums.{either}

-- ---- what holds of each element
pub EachOf-map : {A : Type 0} (P Q : A → Type 0) (xs : List A) → ((x : A) → P x → Q x) → EachOf P xs → EachOf Q xs
unfolding EachOf
EachOf-map P Q [] f e = tt
EachOf-map P Q (x ∷ xs) f e = (f x e.0, EachOf-map P Q xs f e.1)

pub EachOf-more : {A : Type 0} (P : A → Type 0) (x : A) (xs : List A) → P x → EachOf P xs → EachOf P (x ∷ xs)
unfolding EachOf
EachOf-more P x xs p e = (p, e)

pub EachOf-if : {A : Type 0} (P : A → Type 0) (c : Bool) (xs ys : List A) → EachOf P xs → EachOf P ys → EachOf P (if c then xs else ys)
EachOf-if P c xs ys a b = either (EachOf P) c xs ys a b

pub EachOf-changed : {A : Type 0} (P : A → Type 0) (key : A → ℕ) (g : ℕ) (change : A → A) (xs : List A) → ((x : A) → P x → P (change x)) →
    EachOf P xs → EachOf P (changed_by key g change xs)
unfolding EachOf changed_by
EachOf-changed P key g change [] f e = tt
EachOf-changed P key g change (x ∷ xs) f e =
    EachOf-if P (key x == g) (change x ∷ xs) (x ∷ changed_by key g change xs) (f x e.0, e.1) (e.0, EachOf-changed P key g change xs f e.1)

pub EachOf-without : {A : Type 0} (P : A → Type 0) (key : A → ℕ) (g : ℕ) (xs : List A) → EachOf P xs → EachOf P (without_by key g xs)
unfolding EachOf without_by
EachOf-without P key g [] e = tt
EachOf-without P key g (x ∷ xs) e =
    EachOf-if P (key x == g) xs (x ∷ without_by key g xs) e.1 (EachOf-more P x (without_by key g xs) e.0 (EachOf-without P key g xs e.1))

-- of the newest one with that number it holds
first-each : {A : Type 0} (P : A → Type 0) (c : Bool) (x y : A) (o : Option A) → P x → (o ≡ Some y → P y) →
    (if c then Some x else o) ≡ Some y → P y
first-each P true x y o p rest e = subst P (cc) p
first-each P false x y o p rest e = rest e

pub EachOf-first : {A : Type 0} (P : A → Type 0) (key : A → ℕ) (g : ℕ) (y : A) (xs : List A) → EachOf P xs → first_by key g xs ≡ Some y → P y
unfolding EachOf first_by
EachOf-first P key g y [] e at = absurd (cc)
EachOf-first P key g y (x ∷ xs) e at =
    first-each P (key x == g) x y (first_by key g xs) e.0 (λ k. EachOf-first P key g y xs e.1 k) at

-- and that is its number
pub first-key : {A : Type 0} (key : A → ℕ) (g : ℕ) (y : A) (xs : List A) → first_by key g xs ≡ Some y → key y ≡ g
unfolding first_by
first-key key g y [] at = absurd (cc)
first-key key g y (x ∷ xs) at =
    elim (key x == g) as (λ c. (key x == g) ≡ c → (if c then Some x else first_by key g xs) ≡ Some y → key y ≡ g) [
      | true ↦ λ t e. (let k : x ≡ y = cc in subst (λ z. key z ≡ g) k (grind (arith, nat_tests)))
      | false ↦ λ t e. first-key key g y xs e
    ] refl at

-- where it stands at least once there is a newest one
pub first-some : {A : Type 0} (key : A → ℕ) (g : ℕ) (y : A) (xs : List A) → first_by key g xs ≡ Some y → 0 < times_by key g xs
unfolding first_by times_by
first-some key g y [] at = absurd (cc)
first-some key g y (x ∷ xs) at =
    elim (key x == g) as (λ c. (key x == g) ≡ c → (if c then Some x else first_by key g xs) ≡ Some y → 0 < one_at g (key x) + times_by key g xs) [
      | true ↦ λ t e. (let one : one_at g (key x) ≡ 1 = grind (arith, nat_tests) in omega arith)
      | false ↦ λ t e. (let rest = first-some key g y xs e in omega arith)
    ] refl at

-- ---- how often a number stands there

pub times-changed : {A : Type 0} (key : A → ℕ) (g f : ℕ) (change : A → A) (xs : List A) → ((x : A) → key (change x) ≡ key x) →
    times_by key g (changed_by key f change xs) ≡ times_by key g xs
unfolding times_by changed_by
times-changed key g f change [] e = refl
times-changed key g f change (x ∷ xs) e =
    let rest = times-changed key g f change xs e in
    either (λ ys. times_by key g ys ≡ one_at g (key x) + times_by key g xs) (key x == f) (change x ∷ xs) (x ∷ changed_by key f change xs) (rw (e x)) (rw rest)

pub times-without : {A : Type 0} (key : A → ℕ) (g f : ℕ) (xs : List A) → times_by key g (without_by key f xs) ≤ times_by key g xs
unfolding times_by without_by
times-without key g f [] = omega arith
times-without key g f (x ∷ xs) =
    let rest = times-without key g f xs in
    either (λ ys. times_by key g ys ≤ one_at g (key x) + times_by key g xs) (key x == f) xs (x ∷ without_by key f xs) (omega arith) (omega arith)

-- ---- elements
kept-if : {A : Type 0} (y x : A) (c : Bool) (xs ys : List A) → (Member y xs → Member y ys) → Member y (if c then (x ∷ xs) else xs) → (x ≡ y) ⊎ Member y ys
unfolding Member
kept-if y x true xs ys f (inl e) = inl e
kept-if y x true xs ys f (inr e) = inr (f e)
kept-if y x false xs ys f e = inr (f e)

pub Member-kept : {A : Type 0} (test : A → Bool) (y : A) (xs : List A) → Member y (kept_of test xs) → Member y xs
unfolding Member kept_of
Member-kept test y [] e = e
Member-kept test y (x ∷ xs) e = kept-if y x (test x) (kept_of test xs) xs (λ k. Member-kept test y xs k) e

pub Member-take : {A : Type 0} (n : ℕ) (y : A) (xs : List A) → Member y (take n xs) → Member y xs
unfolding Member
Member-take zero y xs e = absurd e
Member-take (suc n) y [] e = e
Member-take (suc n) y (x ∷ xs) e = elim e [
  | inl at ↦ inl at
  | inr rest ↦ inr (Member-take n y xs rest)
]

-- where an element passes a test there is one that does
pub some_of-member : {A : Type 0} (test : A → Bool) (xs : List A) → IsTrue (some_of test xs) → (x : A) × Member x xs × IsTrue (test x)
unfolding some_of Member
some_of-member test [] k = absurd (cc)
some_of-member test (x ∷ xs) k =
    elim (or_cases (test x) (some_of test xs) k) [
      | inl here ↦ (x, inl refl, here)
      | inr there ↦ let rest = some_of-member test xs there in (rest.0, inr rest.1, rest.2)
    ]

pub EachOf-all : {A : Type 0} (P : A → Type 0) (xs : List A) → ((e : A) → P e) → EachOf P xs
unfolding EachOf
EachOf-all P [] f = tt
EachOf-all P (x ∷ xs) f = (f x, EachOf-all P xs f)

-- an element more where a test is passed, and one fewer
pub EachOf-maybe : {A : Type 0} (P : A → Type 0) (c : Bool) (x : A) (xs : List A) → (c ≡ true → P x) → EachOf P xs → EachOf P (if c then (x ∷ xs) else xs)
unfolding EachOf
EachOf-maybe P true x xs one e = (one refl, e)
EachOf-maybe P false x xs one e = e

pub EachOf-maybe_without : {A : Type 0} (P : A → Type 0) (key : A → ℕ) (c : Bool) (g : ℕ) (xs : List A) → EachOf P xs → EachOf P (if c then without_by key g xs else xs)
EachOf-maybe_without P key c g xs e = EachOf-if P c (without_by key g xs) xs (EachOf-without P key g xs e) e

pub EachOf-kept : {A : Type 0} (P : A → Type 0) (test : A → Bool) (xs : List A) → EachOf P xs → EachOf P (kept_of test xs)
unfolding EachOf kept_of
EachOf-kept P test [] h = tt
EachOf-kept P test (x ∷ xs) h = EachOf-maybe P (test x) x (kept_of test xs) (λ t. h.0) (EachOf-kept P test xs h.1)
