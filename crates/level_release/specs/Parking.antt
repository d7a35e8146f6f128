-- A typed reference to a live table that is given back where a call cannot go on: what that asks, by which calls, and what is left in hand.
use Rattle.std.specs.Prelude.{◌≡◌, ◌⊎◌, ℕ, ◌+◌, ◌<◌, ◌≤◌, Bool, true, false, [], ◌∷◌, length, None, Some}
use Rattle.xp_words.specs.KindWords.{kind_write}
use Rattle.xp_words.specs.declared.kind.PageType.{PageType}
use Rattle.xp_words.specs.declared.place.Place.TheVariants.{Kind}
use Rattle.xp_board.specs.declared.holdings.OwnerFound.TheVariants as owners
use Rattle.xp_board.specs.declared.step.Act.TheVariants.{Store}
use Rattle.xp_board.specs.declared.step.StepKind.TheVariants as kinds
use Rattle.xp_board.specs.KindSteps.{live_typed}
use Rattle.xp_board.specs.Told.{PortValue}
use Rattle.step_maker.specs.Holds.{Holds, MayWork}
use Rattle.step_maker.specs.Moves.{Came, Moves}
use Rattle.kind_words.specs.Kinds.{partial_kind}
use Rattle.frame_types.specs.Lowering.{DropsType}
use Rattle.kept_marks.specs.Marks.{IsForeign, KeptFor, ServesKept}
use Rattle.partial_state.specs.Levels.{level_type}
use Rattle.table_entries.specs.Acquiring.{GaveRef, Named}

-- a typed reference to that frame, known live as that type and that domain's, is the only one; no frame is in work, and no look unfinished
pub record HoldsTyped (v : PortValue) (f : ℕ) (kind : PageType) (owner : ℕ) : Type 0 where
  pub works : v.holdings.works ≡ []
  pub looking : v.holdings.looking ≡ []
  pub typed : v.holdings.typed ≡ live_typed f kind (owners.Of owner) ∷ []

-- What `park` asks. The first old word is known to name none.
pub record MayPark (v : PortValue) (f level owner : ℕ) : Type 0 where
  pub frame : f < v.post.machine.frames
  pub may : MayWork v
  pub low : 1 ≤ level
  pub high : level ≤ 4
  pub real : owner < length v.post.machine.page_limit
  pub holds : HoldsTyped v f (level_type level) owner
  pub room : v.holdings.old0 ≡ Some 0

-- it was not the last; or all entries stay recorded, and the own mark keeps the reference, or the first old word names the frame
pub data Parked (v : PortValue) (f level owner : ℕ) : Bool → PortValue → Type 0 where
  shared : (u w : PortValue) (kept : Bool) → DropsType v u f false → GaveRef u w f → Parked v f level owner kept w
  marked : (u w : PortValue) → DropsType v u f true → KeptFor u w f (partial_kind (level_type level) true false 512 0) owner → Parked v f level owner true w
  named : (u y w : PortValue) (x : ℕ) → DropsType v u f true → Moves u y (Kind f) (Store (kind_write (partial_kind (level_type level) false false 512 0))) kinds.Kind None x → Named y w f →
      Parked v f level owner false w

-- it is gone; or the first old word names the frame, where no mark of its own keeps it, or that may have been taken back
abbrev pub LeavesParked : PortValue → PortValue → ℕ → ℕ → Bool → Type 0
LeavesParked v w f owner kept = Holds v w (record v.holdings { typed = [] }) ⊎ (((kept ≡ false) ⊎ IsForeign v owner) × Holds v w (record v.holdings { typed = []; old0 = Some (f + 1) }))

pub record Parks (v w : PortValue) (f level owner : ℕ) (kept : Bool) : Type 0 where
  pub came : Came v w
  pub serves : ServesKept v w f owner
  pub hand : LeavesParked v w f owner kept
  pub course : Parked v f level owner kept w
