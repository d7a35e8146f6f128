-- Counts, searches and changes in the lists of a hand, by the number (a frame, a domain) of each element.
use Rattle.std.specs.Prelude.{◌≡◌, ◌⊎◌, ℕ, zero, suc, ◌+◌, ◌==◌, ◌||◌, if◌then◌else◌, Bool, false, List, [], ◌∷◌, Option, Some, None}

-- 1 where the two are equal
abbrev pub one_at : ℕ → ℕ → ℕ
one_at g x = if x == g then 1 else 0

-- how many elements have that number
unfoldable pub times_by : {A : Type 0} → (A → ℕ) → ℕ → List A → ℕ
times_by key g [] = 0
times_by key g (x ∷ xs) = one_at g (key x) + times_by key g xs

-- the newest element with that number
unfoldable pub first_by : {A : Type 0} → (A → ℕ) → ℕ → List A → Option A
first_by key g [] = None
first_by key g (x ∷ xs) = if key x == g then Some x else first_by key g xs

-- the list without the newest such element
unfoldable pub without_by : {A : Type 0} → (A → ℕ) → ℕ → List A → List A
without_by key g [] = []
without_by key g (x ∷ xs) = if key x == g then xs else (x ∷ without_by key g xs)

-- the list with the newest such element changed
unfoldable pub changed_by : {A : Type 0} → (A → ℕ) → ℕ → (A → A) → List A → List A
changed_by key g change [] = []
changed_by key g change (x ∷ xs) = if key x == g then (change x ∷ xs) else (x ∷ changed_by key g change xs)

-- whether an element passes the test
unfoldable pub some_of : {A : Type 0} → (A → Bool) → List A → Bool
some_of test [] = false
some_of test (x ∷ xs) = test x || some_of test xs

-- the newest element that passes the test
unfoldable pub first_of : {A : Type 0} → (A → Bool) → List A → Option A
first_of test [] = None
first_of test (x ∷ xs) = if test x then Some x else first_of test xs

-- the elements that pass the test
unfoldable pub kept_of : {A : Type 0} → (A → Bool) → List A → List A
kept_of test [] = []
kept_of test (x ∷ xs) = if test x then (x ∷ kept_of test xs) else kept_of test xs

-- P holds of each element
unfoldable pub EachOf : {A : Type 0} → (A → Type 0) → List A → Type 0
EachOf P [] = Unit {0}
EachOf P (x ∷ xs) = P x × EachOf P xs

-- x is an element
unfoldable pub Member : {A : Type 0} → A → List A → Type 0
Member x [] = ⊥
Member x (y ∷ ys) = (y ≡ x) ⊎ Member x ys

-- the list with n more of that number
unfoldable pub with_more : ℕ → ℕ → List ℕ → List ℕ
with_more zero g xs = xs
with_more (suc n) g xs = g ∷ with_more n g xs

-- the list without n of that number
unfoldable pub with_fewer : ℕ → ℕ → List ℕ → List ℕ
with_fewer zero g xs = xs
with_fewer (suc n) g xs = with_fewer n g (without_by (λ x. x) g xs)

-- how often a number stands in the list
abbrev pub times : ℕ → List ℕ → ℕ
times g xs = times_by (λ x. x) g xs
