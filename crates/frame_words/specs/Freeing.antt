-- A frame whose last reference was given back becomes free.
use Rattle.std.specs.Prelude.{◌≡◌, ◌≢◌, ℕ, ◌/◌, ◌≤◌, ◌==◌, Bool, List, [], ◌∷◌, length, Option, Some, None, IsTrue}
use Rattle.xp_words.specs.declared.refs.RefWord.TheVariants.{Free, Owned}
use Rattle.xp_words.specs.Machine.{Machine}
use Rattle.xp_words.specs.declared.place.Place.TheVariants.{Clock, Refs, Map, Pages}
use Rattle.xp_words.specs.Places.{sizes_of}
use Rattle.xp_words.specs.RefWords.{ref_read, ref_write}
use Rattle.xp_board.specs.declared.holdings.Ending.{Ending}
use Rattle.xp_board.specs.declared.holdings.Holdings.{Holdings}
use Rattle.xp_board.specs.Hands.{claim_of, without_ref, without_ending}
use Rattle.xp_board.specs.Lists.{without_by}
use Rattle.xp_board.specs.Readings.{ref_count}
use Rattle.xp_board.specs.HintSteps.{map_bit}
use Rattle.xp_board.specs.RefSteps.{one_down}
use Rattle.xp_board.specs.Steps.{some_since}
use Rattle.xp_board.specs.Told.{PortValue}
use Rattle.xp_board.specs.declared.step.Act.TheVariants.{Load, Store, Add}
use Rattle.xp_board.specs.declared.step.StepKind.TheVariants as kinds
use Rattle.step_maker.specs.Holds.{Holds}
use Rattle.step_maker.specs.Moves.{Moves}
use Rattle.step_maker.specs.Visits.{Visit, visit, Does, Nothing, Only, Then}

-- the newest of the ending frames is f, of that owner; it is not claimed, and its bit in the map is not set
pub record IsEnding (f owner : ℕ) (h : Holdings) : Type 0 where
  pub ending : Ending
  pub others : List Ending
  pub newest : h.ending ≡ ending ∷ others
  pub frame : ending.frame ≡ f
  pub owner_is : ending.owner ≡ owner
  pub recent : ending.since ≤ length h.steps
  pub unclaimed : claim_of f h.claimed ≡ None

-- and that clock value was found since it came there
pub record IsEndingSince (n : Machine) (f owner stamp : ℕ) (h : Holdings) : Type 0 where
  pub ends : IsEnding f owner h
  pub told : IsTrue (some_since (sizes_of n) ends.ending.since Clock (λ w. w == stamp) h.steps)

abbrev pub raised_bit : ℕ → Holdings → Holdings
raised_bit f h = record h { raised = f ∷ h.raised }

abbrev pub made_free : ℕ → ℕ → Holdings → Holdings
made_free f owner h = record h { ending = without_ending f h.ending; raised = without_by (λ g. g) f h.raised; credits = owner ∷ h.credits }

abbrev pub refunded : ℕ → Holdings → Holdings
refunded d h = record h { credits = without_by (λ e. e) d h.credits }

-- nothing of the frame is left in hand
abbrev pub left_free : ℕ → Holdings → Holdings
left_free f h = record h { ending = without_ending f h.ending }

-- an untyped reference went out of the hand
abbrev pub gave : ℕ → Holdings → Holdings
gave f h = record h { refs = without_ref f h.refs }

-- whose frame it is, where the word counts one reference
abbrev pub LastOf : ℕ → Option ℕ → Type 0
LastOf w (Some owner) = (allocated : Bool) × (ref_read w ≡ Some (Owned owner allocated 1))
LastOf w None = ref_count w ≢ 1

-- From v to w these four steps free a frame of that owner, with a clock value that the first found.
pub record Frees (v w : PortValue) (f owner : ℕ) : Type 0 where
  pub a : PortValue
  pub b : PortValue
  pub d : PortValue
  pub stamp : ℕ
  pub x : ℕ
  pub y : ℕ
  pub z : ℕ
  pub look : Moves v a Clock Load kinds.Look None stamp
  pub bit : Moves a b (Map (f / 64)) (Add (map_bit f)) kinds.Hint None x
  pub free : Moves b d (Refs f) (Store (ref_write (Free stamp))) kinds.Ref None y
  pub pages : Moves d w (Pages owner) (Add one_down) kinds.Pages None z
  pub hand : Holds v w (left_free f v.holdings)

-- A reference is given back by one step that counts one less. Where it was the last, the clock is loaded, the frame's bit is set in
-- the map of free frames, its free word stored with that clock value, and one taken from the pages of the owner.
abbrev pub lowers_refs : ℕ → ℕ → Visit
lowers_refs f x = visit (Refs f) (Add one_down) x

abbrev pub freeing : ℕ → ℕ → ℕ → ℕ → ℕ → ℕ → List Visit
freeing f owner clock b y z =
    visit (Pages owner) (Add one_down) z ∷ (visit (Refs f) (Store (ref_write (Free clock))) y ∷ (visit (Map (f / 64)) (Add (map_bit f)) b ∷ (visit Clock Load clock ∷ [])))

abbrev pub FreesBy : ℕ → Option ℕ → List Visit → Type 0
FreesBy f (Some owner) vs = (clock : ℕ) × (b : ℕ) × (y : ℕ) × (z : ℕ) × (vs ≡ freeing f owner clock b y z)
FreesBy f None vs = Nothing vs

pub record PutBy (f : ℕ) (vs : List Visit) : Type 0 where
  pub word : ℕ
  pub last : Option ℕ
  pub of : LastOf word last
  pub steps : Then (Only (lowers_refs f word)) (FreesBy f last) vs

abbrev pub Puts : PortValue → PortValue → ℕ → Type 0
Puts v w f = Does v w (PutBy f)
