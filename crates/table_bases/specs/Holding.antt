-- What is in hand as a base is stored: a typed reference to its table, and no other; and what comes out of the word.
use Rattle.std.specs.Prelude.{◌≡◌, ◌⊎◌, ℕ, zero, suc, ◌+◌, ◌<◌, nat_lt, List, [], ◌∷◌, Option, Some, None, IsTrue}
use Rattle.xp_words.specs.Places.{sizes_of}
use Rattle.xp_words.specs.declared.kind.PageType.TheVariants.{L4}
use Rattle.xp_words.specs.declared.place.Place.{Place}
use Rattle.xp_words.specs.declared.place.Place.TheVariants.{Clock, Vcpu}
use Rattle.xp_board.specs.declared.holdings.Holdings.{Holdings}
use Rattle.xp_board.specs.declared.holdings.OwnerFound.TheVariants as owners
use Rattle.xp_board.specs.declared.holdings.TypedReference.{TypedReference}
use Rattle.xp_board.specs.Hands.{IsEmptyHand, owner_from}
use Rattle.xp_board.specs.KindSteps.{live_typed}
use Rattle.xp_board.specs.Readings.{last_clock}
use Rattle.xp_board.specs.Steps.{some_since}
use Rattle.xp_board.specs.Told.{PortValue}
use Rattle.step_maker.specs.Holds.{FlushedHolds}
use Rattle.level_validate.specs.Unwinding.{own_domain}
use Rattle.table_bases.specs.declared.words.Base.{Base}
use Rattle.table_bases.specs.declared.words.Base.TheVariants.{Kernel, User}

-- ---- the words
-- which word of a vCPU it is
abbrev pub base_number : Base → ℕ
base_number Kernel = 0
base_number User = 1

abbrev pub base_place : ℕ → Base → Place
base_place s base = Vcpu s (base_number base)

-- the word that names that frame, or none
abbrev pub naming : Option ℕ → ℕ
naming None = 0
naming (Some f) = f + 1

-- ---- the hand
-- so many typed references are in hand, and beside them nothing
abbrev pub with_typed : List TypedReference → Holdings → Holdings
with_typed ts h = record h { typed = ts }

-- the only typed reference in hand is to that frame, a live table of level 4 of the own domain; for none there is none
abbrev pub HoldsTop : PortValue → Option ℕ → Type 0
HoldsTop v None = v.holdings.typed ≡ []
HoldsTop v (Some f) = (f < v.post.machine.frames) × (v.holdings.typed ≡ live_typed f L4 (owners.Of (own_domain v)) ∷ [])

abbrev pub HoldsNoMore : PortValue → Type 0
HoldsNoMore v = IsEmptyHand (with_typed [] v.holdings)

-- what the word named before is in hand then, and no other typed reference
abbrev pub came_out : ℕ → Holdings → List TypedReference
came_out zero h = []
came_out (suc g) h = live_typed g L4 (owner_from h) ∷ []

-- since the vCPU began to run it found the clock below its last value
abbrev pub FoundClockLow : PortValue → Type 0
FoundClockLow v = IsTrue (some_since (sizes_of v.post.machine) v.holdings.ran Clock (λ w. nat_lt w last_clock) v.holdings.steps)

-- The reference is out of the hand, and so is what the word named before, but where its release is paused the first old word names it.
abbrev pub LeavesInstalled : PortValue → PortValue → Type 0
LeavesInstalled v w = FlushedHolds v w (with_typed [] v.holdings) ⊎ ((g : ℕ) × FlushedHolds v w (record (with_typed [] v.holdings) { old0 = Some (g + 1) }))
