-- Frames in the own works that wait for a flush which is not to be had, and how they are left.
use Rattle.std.specs.Prelude.{◌≡◌, ℕ, ◌<◌, Bool, true, List, ◌∷◌, Some}
use Rattle.xp_words.specs.declared.kind.PageType.{PageType}
use Rattle.xp_board.specs.declared.holdings.Holdings.{Holdings}
use Rattle.xp_board.specs.declared.holdings.OwnerFound.TheVariants as owners
use Rattle.xp_board.specs.Hands.{typed_owner, typed_to, without_ref}
use Rattle.xp_board.specs.Told.{PortValue}
use Rattle.step_maker.specs.Holds.{FlushedHolds}
use Rattle.step_maker.specs.Answers.{Deed, Serves}
use Rattle.step_maker.specs.Asked.{of_frame}
use Rattle.frame_words.specs.Freeing.{gave}
use Rattle.frame_types.specs.Taking.{LentBy, WaitsWith, working_typed}

-- From b to v a frame came into the own works, and waits there. From b on it was held by the untyped reference alone.
pub record WaitsFrom (b v : PortValue) (f owner : ℕ) (want : PageType) (own : Bool) (stamp : ℕ) : Type 0 where
  pub waits : WaitsWith b v f owner want own stamp
  pub lent : LentBy f owner b.holdings

-- it came there from some port
abbrev pub IsWaiting : PortValue → ℕ → PageType → Bool → ℕ → Type 0
IsWaiting v f want own stamp = (b : PortValue) × (owner : ℕ) × WaitsFrom b v f owner want own stamp

-- behind steps that serve that type of the frame, those from v to w serve it too
abbrev pub ServesType : PortValue → PortValue → ℕ → PageType → Type 0
ServesType v w f want =
    (u : PortValue) (owner : ℕ) (ds : List Deed) → Serves u v (of_frame f owner (Some want)) ds → Serves u w (of_frame f owner (Some want)) ds

-- from wherever the frame came into the own works, the untyped reference went out of the hand
abbrev pub GivesBack : PortValue → PortValue → ℕ → PageType → Bool → Type 0
GivesBack v w f want own = (b : PortValue) (owner stamp : ℕ) → WaitsFrom b v f owner want own stamp → FlushedHolds b w (gave f b.holdings)

-- the untyped reference became the type count of a frame that is left partial
abbrev pub unsettled_typed : ℕ → ℕ → PageType → ℕ → Holdings → Holdings
unsettled_typed f owner want since h = record h { refs = without_ref f h.refs; typed = working_typed f owner want since ∷ h.typed }

pub record StaysTyped (b w : PortValue) (f owner : ℕ) (want : PageType) : Type 0 where
  pub since : ℕ
  pub hand : FlushedHolds b w (unsettled_typed f owner want since b.holdings)
  pub held : 0 < typed_to f w.holdings.typed
  pub owned : typed_owner f w.holdings ≡ owners.Of owner

-- from wherever the frame came into the own works, its type count is in hand
abbrev pub KeepsType : PortValue → PortValue → ℕ → PageType → Type 0
KeepsType v w f want = (b : PortValue) (owner stamp : ℕ) → WaitsFrom b v f owner want true stamp → StaysTyped b w f owner want
