-- What a vCPU has found and left, as its steps tell it. Steps have numbers: the number of a step is how many
-- the vCPU had made before it.
use Rattle.std.specs.Prelude.{ℕ, ◌==◌, ◌&&◌, ◌||◌, nat_lt, nat_le, if◌then◌else◌, Bool, true, false, List, [], ◌∷◌, length, Option, Some, None, IsTrue}
use Rattle.xp_words.specs.declared.place.Place.{Place}
use Rattle.xp_words.specs.declared.place.Place.TheVariants.{Clock, Pages, Life, Vcpu, Refs, Kind, M2p, Cell, Map, Priv}
use Rattle.xp_words.specs.Places.{Sizes, place_at}
use Rattle.xp_board.specs.declared.holdings.Made.{Made}
use Rattle.xp_board.specs.Acts.{left_by}

-- whether two places are one
abbrev pub is_same : Place → Place → Bool
is_same Clock Clock = true
is_same (Pages d) (Pages e) = d == e
is_same (Life d) (Life e) = d == e
is_same (Vcpu v k) (Vcpu w j) = if v == w then k == j else false
is_same (Refs f) (Refs g) = f == g
is_same (Kind f) (Kind g) = f == g
is_same (M2p f) (M2p g) = f == g
is_same (Cell f i) (Cell g j) = if f == g then i == j else false
is_same (Map k) (Map j) = k == j
is_same (Priv d) (Priv e) = d == e
is_same _ _ = false

-- the word that stood there right after the step: where nothing was stored, the word found
abbrev pub left_of : Made → ℕ
left_of x = left_by x.step.act x.found

abbrev pub is_at : Sizes → Place → Made → Bool
is_at z p x = is_same (place_at z x.step.place) p

-- whether a step, with its number, passes the test
unfoldable pub some_step : (ℕ → Made → Bool) → List Made → Bool
some_step test [] = false
some_step test (x ∷ xs) = test (length xs) x || some_step test xs

-- whether a step from number n on found or left a word at p that passes the test
abbrev pub some_since : Sizes → ℕ → Place → (ℕ → Bool) → List Made → Bool
some_since z n p test steps = some_step (λ k x. nat_le n k && (is_at z p x && test (left_of x))) steps

-- the same of the steps below number n
abbrev pub some_before : Sizes → ℕ → Place → (ℕ → Bool) → List Made → Bool
some_before z n p test steps = some_step (λ k x. nat_lt k n && (is_at z p x && test (left_of x))) steps

-- the same of the steps from number n on and below number o
abbrev pub some_between : Sizes → ℕ → ℕ → Place → (ℕ → Bool) → List Made → Bool
some_between z n o p test steps = some_step (λ k x. (nat_le n k && nat_lt k o) && (is_at z p x && test (left_of x))) steps

-- the word last found or left at p, by a step from number n on
unfoldable pub last_since : Sizes → ℕ → Place → List Made → Option ℕ
last_since z n p [] = None
last_since z n p (x ∷ xs) =
    if nat_le n (length xs) then (if is_at z p x then Some (left_of x) else last_since z n p xs) else None

-- each step with its number
unfoldable pub EachStep : (ℕ → Made → Type 0) → List Made → Type 0
EachStep P [] = Unit {0}
EachStep P (x ∷ xs) = P (length xs) x × EachStep P xs

-- each word found or left at p by a step from number n on
abbrev pub EachSince : Sizes → ℕ → Place → (ℕ → Type 0) → List Made → Type 0
EachSince z n p P steps = EachStep (λ k x. IsTrue (nat_le n k && is_at z p x) → P x.found × P (left_of x)) steps

-- the steps before the newest that found or left at p a word that passes the test; none where there is none
unfoldable pub steps_before : Sizes → Place → (ℕ → Bool) → List Made → List Made
steps_before z p test [] = []
steps_before z p test (x ∷ xs) = if is_at z p x && test (left_of x) then xs else steps_before z p test xs
