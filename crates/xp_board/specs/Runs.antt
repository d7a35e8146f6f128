-- Runs: the atomic steps of all vCPUs in one order.
use Rattle.std.specs.Prelude.{◌≡◌, ◌≢◌, ℕ, ◌<◌, List, [], ◌∷◌, replicate, slice_set}
use Rattle.xp_words.specs.Machine.{Machine}
use Rattle.xp_words.specs.declared.place.Place.{Place}
use Rattle.xp_words.specs.Places.{sizes_of, place_at, memory}
use Rattle.xp_board.specs.declared.step.Step.{Step}
use Rattle.xp_board.specs.declared.holdings.Made.{Made}
use Rattle.xp_board.specs.declared.holdings.Holdings.{Holdings}
use Rattle.xp_board.specs.Acts.{left_by}
use Rattle.xp_board.specs.Hands.{empty}
use Rattle.xp_board.specs.Legal.{Legal}
use Rattle.xp_board.specs.After.{after}
use Rattle.xp_board.specs.Sound.{hand_of}

-- ---- one step, by named places: what laws speak of
abbrev pub place_of : Machine → Step → Place
place_of n x = place_at (sizes_of n) x.place

-- the words and holdings before and after a step of vCPU s
pub record Stepped (n : Machine) (s : ℕ) (x : Step) (m m2 : Place → ℕ) (h h2 : ℕ → Holdings) : Type 0 where
  pub here : m2 (place_of n x) ≡ left_by x.act (m (place_of n x))
  pub elsewhere : (p : Place) → p ≢ place_of n x → m2 p ≡ m p
  pub mine : h2 s ≡ after n s (h s) x (m (place_of n x))
  pub others : (t : ℕ) → t ≢ s → h2 t ≡ h t

-- ---- states
-- the words of a machine, and what each vCPU holds
pub record State : Type 0 where
  pub words : List ℕ
  pub hands : List Holdings

abbrev pub word_at : Machine → State → Place → ℕ
word_at n a p = memory (sizes_of n) a.words p

-- empty hands
abbrev pub start : Machine → List ℕ → State
start n words = record { words = words; hands = replicate (sizes_of n).vcpus empty }

-- the state after a step of vCPU s
abbrev pub next : Machine → State → ℕ → Step → State
next n a s x =
    record {
      words = slice_set a.words x.place (left_by x.act (word_at n a (place_of n x)));
      hands = slice_set a.hands s (after n s (hand_of a.hands s) x (word_at n a (place_of n x)));
    }

-- ---- runs
-- vCPU s may make the step in state a, which then is b
pub record StepsTo (n : Machine) (a : State) (s : ℕ) (x : Step) (b : State) : Type 0 where
  pub vcpu : s < (sizes_of n).vcpus
  pub legal : Legal n s (hand_of a.hands s) x
  pub next_is : b ≡ next n a s x

-- from state a the steps, each with its vCPU and the newest first, lead to b; each is legal by its vCPU's holdings at that moment
abbrev pub Run : Machine → State → List (ℕ × Step) → State → Type 0
Run n a [] b = b ≡ a
Run n a (e ∷ es) b = (c : State) × Run n a es c × StepsTo n c e.0 e.1 b

-- the vCPUs' own lists of steps, with the words that they found, are one run from the opening words to state b
pub record IsOneRun (n : Machine) (opening : List ℕ) (lists : ℕ → List Made) (b : State) : Type 0 where
  pub log : List (ℕ × Step)
  pub run : Run n (start n opening) log b
  pub lists_are : (s : ℕ) → s < (sizes_of n).vcpus → (hand_of b.hands s).steps ≡ lists s
