-- Entries of a table in work: which of them may be recorded, and when work may go beyond the last one.
use Rattle.std.specs.Prelude.{◌≡◌, ℕ, ◌-◌, ◌<◌, ◌⊎◌, Bool, true, false, List, ◌∷◌, Option, Some, None, IsTrue}
use Rattle.xp_words.specs.declared.kind.PageType.{PageType}
use Rattle.xp_words.specs.declared.entry.Demand.{Demand}
use Rattle.xp_words.specs.declared.entry.Demand.TheVariants.{Nothing, Bad, Read, Typed}
use Rattle.xp_words.specs.Entries.{demand_at, is_lowest}
use Rattle.xp_words.specs.KindWords.{kind_fields}
use Rattle.xp_words.specs.Machine.{Machine}
use Rattle.xp_words.specs.declared.place.Place.TheVariants.{Kind, Priv}
use Rattle.xp_words.specs.Places.{Sizes, sizes_of}
use Rattle.xp_board.specs.declared.holdings.Made.{Made}
use Rattle.xp_board.specs.declared.holdings.Work.{Work}
use Rattle.xp_board.specs.declared.holdings.Unsettled.{Unsettled}
use Rattle.xp_board.specs.declared.holdings.Holdings.{Holdings}
use Rattle.xp_board.specs.Steps.{some_since}
use Rattle.xp_board.specs.Readings.{is_live_word, has_now}
use Rattle.xp_board.specs.Hands.{refs_to, without_ref, typed_to, without_typed, brought, brought_as}
use Rattle.xp_board.specs.Knowledge.{knows_owner, knows_live, knows_partial}
use Rattle.xp_board.specs.RefSteps.{SparesClosing}

-- ---- the last recorded entry
-- its frame was found or made live since, or it asks no type
abbrev pub settles : Sizes → ℕ → List Made → Demand → Bool
settles z n steps (Typed g t) = some_since z n (Kind g) is_live_word steps
settles z n steps _ = true

abbrev pub settles_word : Sizes → PageType → ℕ → ℕ → List Made → Option ℕ → Bool
settles_word z kind i n steps (Some w) = settles z n steps (demand_at kind i w)
settles_word z kind i n steps None = false

abbrev pub settles_last : Sizes → Work → List Made → Option Unsettled → Bool
settles_last z e steps None = true
settles_last z e steps (Some u) = settles_word z (kind_fields e.word).kind (e.recorded - 1) u.since steps u.word

-- the frame of the last recorded entry is live, as the vCPU knows
unfoldable pub is_settled : Sizes → Holdings → Work → Bool
is_settled z h e = settles_last z e h.steps e.unsettled

-- ---- a demand that goes out of the hand into an entry of table f
-- The owners that the vCPU knows: one and the same, or at level 1 one over whose frames the table's owner
-- has privilege, as was found in this turn.
pub record OwnersMeet (m : Machine) (f g : ℕ) (kind : PageType) (h : Holdings) : Type 0 where
  pub table : ℕ
  pub frame : ℕ
  pub table_known : IsTrue (knows_owner (sizes_of m) f table h)
  pub frame_known : IsTrue (knows_owner (sizes_of m) g frame h)
  pub meet : (frame ≡ table)
      ⊎ (IsTrue (is_lowest kind) × IsTrue (some_since (sizes_of m) h.turn (Priv table) (has_now frame) h.steps))

pub record HasPlain (m : Machine) (f g : ℕ) (kind : PageType) (h : Holdings) : Type 0 where
  pub in_hand : 0 < refs_to g h.refs
  pub spares : SparesClosing g h
  pub owners : OwnersMeet m f g kind h

pub record HasTyped (m : Machine) (f g : ℕ) (kind : PageType) (h : Holdings) : Type 0 where
  pub in_hand : 0 < typed_to g h.typed
  pub owners : OwnersMeet m f g kind h

-- what the demand asks is in hand, its owner fits, and a typed one is live
abbrev pub HasDemand : Machine → ℕ → PageType → Holdings → Demand → Type 0
HasDemand m f kind h Nothing = Unit {0}
HasDemand m f kind h Bad = ⊥
HasDemand m f kind h (Read g) = HasPlain m f g kind h
HasDemand m f kind h (Typed g t) = HasTyped m f g kind h × IsTrue (knows_live (sizes_of m) g t h)

-- the same, but a typed one may be partial
abbrev pub HasLastDemand : Machine → ℕ → PageType → Holdings → Demand → Type 0
HasLastDemand m f kind h (Typed g t) =
    HasTyped m f g kind h × (IsTrue (knows_live (sizes_of m) g t h) ⊎ IsTrue (knows_partial (sizes_of m) g t h))
HasLastDemand m f kind h d = HasDemand m f kind h d

-- ---- the hand after
abbrev pub demand_out : Demand → Holdings → Holdings
demand_out (Read g) h = record h { refs = without_ref g h.refs }
demand_out (Typed g t) h = record h { typed = without_typed g h.typed }
demand_out _ h = h

abbrev pub demand_in : Bool → Demand → Holdings → Holdings
demand_in sure (Read g) h = record h { refs = brought g h ∷ h.refs }
demand_in sure (Typed g t) h = record h { typed = brought_as sure g t h ∷ h.typed }
demand_in sure _ h = h
