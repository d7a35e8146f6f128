-- What page tables in use lead to, as a plain property of the words.
use Rattle.std.specs.Prelude.{◌≡◌, ◌≢◌, ℕ, ◌+◌, ◌<◌, ◌++◌, ◌∷◌, List, Some, IsTrue, false}
use Rattle.xp_words.specs.declared.kind.PageType.{PageType}
use Rattle.xp_words.specs.declared.entry.Demand.TheVariants.{Bad, Typed}
use Rattle.xp_words.specs.declared.place.Place.{Place}
use Rattle.xp_words.specs.declared.kind.PageType.TheVariants.{L4}
use Rattle.xp_words.specs.declared.place.Place.TheVariants.{Cell, Kind, Refs, Vcpu}
use Rattle.xp_words.specs.Entries.{demand_at}
use Rattle.xp_words.specs.Machine.{Machine}
use Rattle.xp_words.specs.PageTypes.{is_table}
use Rattle.xp_words.specs.Places.{sizes_of}
use Rattle.xp_board.specs.declared.holdings.Holdings.{Holdings}
use Rattle.xp_board.specs.declared.holdings.Made.{Made}
use Rattle.xp_board.specs.declared.step.Step.{Step}
use Rattle.xp_board.specs.After.{hands_of}
use Rattle.xp_board.specs.Lawful.{IsCountedAs}
use Rattle.xp_board.specs.Readings.{domain_of, kind_at, owner_of, ref_count}
use Rattle.xp_board.specs.Recorded.{names}
use Rattle.xp_board.specs.Runs.{Run, State, StepsTo, place_of, start, word_at}
use Rattle.xp_board.specs.Sound.{hand_of}
use Rattle.xp_board.specs.Valid.{EntryPermitted}

-- Frame f, as a table of type t, leads to a frame as one of type u: to itself, and where an entry of a table that it leads to asks that type of it.
pub data LeadsDown (m : Place → ℕ) (f : ℕ) (t : PageType) : ℕ → PageType → Type 0 where
  itself : LeadsDown m f t f t
  below : (g i x : ℕ) (u w : PageType) → LeadsDown m f t g u → IsTrue (is_table u) → i < 512 → demand_at u i (m (Cell g i)) ≡ Typed x w → LeadsDown m f t x w

-- Frame x is one of the machine, somebody refers to it, and a table g of type u may name it.
pub record IsGranted (n : Machine) (m : Place → ℕ) (g : ℕ) (u : PageType) (x : ℕ) : Type 0 where
  pub inside : x < n.frames
  pub counted : 0 < ref_count (m (Refs x))
  pub permitted : EntryPermitted m u (owner_of (m (Refs g))) x

-- All that frame f leads to as a table of type t is validated: live with the type that is asked of it, and with a type count. No entry of these tables asks
-- what may not be, and what each names is granted.
pub record IsWholeTree (n : Machine) (m : Place → ℕ) (f : ℕ) (t : PageType) : Type 0 where
  pub live : (g : ℕ) (u : PageType) → LeadsDown m f t g u → IsCountedAs (kind_at m g) u
  pub inside : (g : ℕ) (u : PageType) → LeadsDown m f t g u → g < n.frames
  pub allowed : (g i : ℕ) (u : PageType) → LeadsDown m f t g u → IsTrue (is_table u) → i < 512 → demand_at u i (m (Cell g i)) ≢ Bad
  pub granted : (g i x : ℕ) (u : PageType) → LeadsDown m f t g u → IsTrue (is_table u) → i < 512 → names x (demand_at u i (m (Cell g i))) ≡ 1 → IsGranted n m g u x

-- So is each pinned frame, as the table that its kind word says, and each kernel or user base, as a top table of its vCPU's own domain.
pub record AllWhole (n : Machine) (m : Place → ℕ) : Type 0 where
  pub pinned : (f : ℕ) → IsTrue (kind_at m f).pinned → IsTrue (is_table (kind_at m f).kind) × IsWholeTree n m f (kind_at m f).kind
  pub bases : (v k f : ℕ) → v < (sizes_of n).vcpus → k < 2 → m (Vcpu v k) ≡ f + 1 → (owner_of (m (Refs f)) ≡ Some (domain_of n v)) × IsWholeTree n m f L4

-- What vCPU s holds is told by its own steps, from nothing on, as on each run.
abbrev pub IsToldBySteps : Machine → ℕ → Holdings → Type 0
IsToldBySteps n s h = h ≡ hands_of n s h.steps

-- A step of vCPU s at that word leads from one moment of a run to the next. It had made these steps first, before it; and made the last of these with it, or later.
pub record IsSetIn (n : Machine) (opening : List ℕ) (log : List (ℕ × Step)) (s : ℕ) (first last : List Made) (p : Place) (before moment : State) : Type 0 where
  pub newer : List (ℕ × Step)
  pub earlier : List (ℕ × Step)
  pub step : Step
  pub parts : log ≡ newer ++ ((s, step) ∷ earlier)
  pub run : Run n (start n opening) earlier before
  pub made : StepsTo n before s step moment
  pub place : place_of n step ≡ p
  pub since : List Made
  pub begins : (hand_of before.hands s).steps ≡ since ++ first
  pub later : List Made
  pub ends : last ≡ later ++ (hand_of moment.hands s).steps

-- By such a step of vCPU s frame f, which had no pin, was pinned with type t; and it was whole then.
pub record WasPinned (n : Machine) (opening : List ℕ) (log : List (ℕ × Step)) (s : ℕ) (first last : List Made) (f : ℕ) (t : PageType) : Type 0 where
  pub before : State
  pub moment : State
  pub set : IsSetIn n opening log s first last (Kind f) before moment
  pub unpinned : (kind_at (word_at n before) f).pinned ≡ false
  pub pinned : IsTrue (kind_at (word_at n moment) f).pinned
  pub kind : (kind_at (word_at n moment) f).kind ≡ t
  pub whole : IsWholeTree n (word_at n moment) f t

-- By such a step that base of vCPU s (0: the kernel's, 1: the user's) came to name frame f, a top table of the vCPU's own domain, and whole.
pub record WasBase (n : Machine) (opening : List ℕ) (log : List (ℕ × Step)) (s : ℕ) (first last : List Made) (k f : ℕ) : Type 0 where
  pub before : State
  pub moment : State
  pub set : IsSetIn n opening log s first last (Vcpu s k) before moment
  pub names : word_at n moment (Vcpu s k) ≡ f + 1
  pub owner : owner_of (word_at n moment (Refs f)) ≡ Some (domain_of n s)
  pub whole : IsWholeTree n (word_at n moment) f L4
