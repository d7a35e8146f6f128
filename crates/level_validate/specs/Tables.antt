-- Page tables in work, one in the other, as what the vCPU holds for them.
use Rattle.std.specs.Prelude.{◌≡◌, ℕ, ◌+◌, ◌-◌, ◌<◌, ◌≤◌, if◌then◌else◌, Bool, true, false, List, [], ◌∷◌, length, Option, Some, None, IsTrue}
use Rattle.xp_words.specs.Entries.{demand_at}
use Rattle.xp_words.specs.KindWords.{kind_fields}
use Rattle.xp_words.specs.Places.{Sizes, sizes_of}
use Rattle.xp_words.specs.declared.entry.Demand.TheVariants.{Typed}
use Rattle.xp_board.specs.declared.holdings.Made.{Made}
use Rattle.xp_board.specs.declared.holdings.OwnerFound.TheVariants as owners
use Rattle.xp_board.specs.declared.holdings.Reference.{Reference}
use Rattle.xp_board.specs.declared.holdings.TypedReference.{TypedReference}
use Rattle.xp_board.specs.declared.holdings.Unsettled.{Unsettled}
use Rattle.xp_board.specs.declared.holdings.Work.{Work}
use Rattle.xp_board.specs.Hands.{typed_to}
use Rattle.xp_board.specs.Readings.{is_work}
use Rattle.xp_board.specs.Settling.{is_settled, settles_last}
use Rattle.xp_board.specs.Told.{PortValue}
use Rattle.step_maker.specs.Holds.{FlushedHolds}
use Rattle.frame_types.specs.Taking.{working_typed}
use Rattle.partial_state.specs.declared.stack.TableWork.{TableWork}
use Rattle.partial_state.specs.Levels.{level_type}
use Rattle.partial_state.specs.Stacks.{IsStack}

-- ---- works
-- The table is in work with its type, past its flush. Of one whose entry was recorded before, that entry has the type count.
pub record IsTableWork (z : Sizes) (t : TableWork) (e : Work) : Type 0 where
  pub inside : t.frame < z.frames
  pub frame : e.frame ≡ t.frame
  pub work : IsTrue (is_work (kind_fields e.word))
  pub kind : (kind_fields e.word).kind ≡ level_type t.level
  pub unmarked : (kind_fields e.word).unflushed ≡ false
  pub lent : t.recorded ≡ true → t.own ≡ false

-- where the last recorded entry is not settled, it is that word
abbrev pub IsLastWord : ℕ → Option Unsettled → Type 0
IsLastWord word None = Unit {0}
IsLastWord word (Some u) = u.word ≡ Some word

-- How far it is recorded; and that the last of its entries that are done with names the table inside it, if there is one. That entry
-- is under way, and is recorded when the inner table is live; or it was recorded before, and is taken on.
pub data Reaches (z : Sizes) (steps : List Made) (t : TableWork) (e : Work) : Option TableWork → Type 0 where
  innermost : e.recorded ≡ t.done → Reaches z steps t e None
  under_way : (g : TableWork) (word : ℕ) → g.recorded ≡ false → e.recorded + 1 ≡ t.done → IsTrue (settles_last z e steps e.unsettled) →
      e.seen ≡ Some (record { index = e.recorded; word = word }) → demand_at (level_type t.level) e.recorded word ≡ Typed g.frame (level_type g.level) → Reaches z steps t e (Some g)
  taken_on : (g : TableWork) (word : ℕ) → g.recorded ≡ true → e.recorded ≡ t.done → 0 < t.done → IsLastWord word e.unsettled → e.seen ≡ Some (record { index = t.done - 1; word = word }) →
      demand_at (level_type t.level) (t.done - 1) word ≡ Typed g.frame (level_type g.level) → Reaches z steps t e (Some g)

-- these are all frames in work, the innermost first
abbrev pub AreTables : Sizes → List Made → Option TableWork → List TableWork → List Work → Type 0
AreTables z steps inner [] [] = Unit {0}
AreTables z steps inner (t ∷ ts) (e ∷ es) = IsTableWork z t e × Reaches z steps t e inner × AreTables z steps (Some t) ts es
AreTables z steps inner _ _ = ⊥

-- ---- references
-- an untyped one for each table whose type count another holder has
abbrev pub refs_for : ℕ → List TableWork → List Reference → List Reference
refs_for owner [] rs = rs
refs_for owner (t ∷ ts) rs = if t.own then refs_for owner ts rs else (record { frame = t.frame; owner = owners.Of owner } ∷ refs_for owner ts rs)

-- a typed one for each other, taken before so many steps were made; and none of those around it for one of another holder
abbrev pub TypedFor : Bool → ℕ → ℕ → TableWork → (List TypedReference → Type 0) → List TypedReference → Type 0
TypedFor true made owner t P ys =
    (since : ℕ) × (since ≤ made) × (rest : List TypedReference) × (ys ≡ working_typed t.frame owner (level_type t.level) since ∷ rest) × P rest
TypedFor false made owner t P ys = (typed_to t.frame ys ≡ 0) × P ys

abbrev pub AreTyped : ℕ → ℕ → List TableWork → List TypedReference → Type 0
AreTyped made owner [] ys = ys ≡ []
AreTyped made owner (t ∷ ts) ys = TypedFor t.own made owner t (AreTyped made owner ts) ys

-- ---- the whole
-- before: no frame in work, no typed reference, and no look that is unfinished
pub record IsIdle (v : PortValue) : Type 0 where
  pub works : v.holdings.works ≡ []
  pub typed : v.holdings.typed ≡ []
  pub looking : v.holdings.looking ≡ []

-- From v to w these tables of that owner came into work. Beside them w holds what v held.
pub record Carries (v w : PortValue) (owner : ℕ) (ts : List TableWork) : Type 0 where
  pub idle : IsIdle v
  pub stack : IsStack ts
  pub tables : AreTables (sizes_of v.post.machine) w.holdings.steps None ts w.holdings.works
  pub refs : w.holdings.refs ≡ refs_for owner ts v.holdings.refs
  pub typed : AreTyped (length w.holdings.steps) owner ts w.holdings.typed
  pub hand : FlushedHolds v w (record v.holdings { refs = w.holdings.refs; typed = w.holdings.typed; works = w.holdings.works })

-- some port was before
abbrev pub IsStanding : PortValue → ℕ → List TableWork → Type 0
IsStanding w owner ts = (v : PortValue) × Carries v w owner ts

-- the last recorded entry of the innermost table is settled
abbrev pub IsTopReady : PortValue → Type 0
IsTopReady w = (e : Work) (es : List Work) → w.holdings.works ≡ e ∷ es → IsTrue (is_settled (sizes_of w.post.machine) w.holdings e)

-- from any port before, the tables of this stack are in work now
abbrev pub StandsOn : PortValue → PortValue → ℕ → List TableWork → List TableWork → Type 0
StandsOn u w owner ts us = (v : PortValue) → Carries v u owner ts → Carries v w owner us
