-- What is in hand on the way of an exchange: the lock of one table, and what the new word asks.
use Rattle.std.specs.Prelude.{◌≡◌, ◌⊎◌, ℕ, ◌+◌, ◌<◌, ◌≤◌, ◌==◌, if◌then◌else◌, [], ◌∷◌, Option, Some, Result, Ok, Err}
use Rattle.xp_words.specs.declared.entry.Demand.{Demand}
use Rattle.xp_words.specs.declared.entry.Demand.TheVariants as demands
use Rattle.xp_words.specs.declared.reply.Stop.{Stop}
use Rattle.xp_board.specs.declared.holdings.Holdings.{Holdings}
use Rattle.xp_board.specs.declared.holdings.Lock.{Lock}
use Rattle.xp_board.specs.declared.holdings.OwnerFound.TheVariants as owners
use Rattle.xp_board.specs.Hands.{IsEmptyHand, lock_on, without_lock}
use Rattle.xp_board.specs.KindSteps.{live_typed}
use Rattle.xp_board.specs.Told.{PortValue}
use Rattle.step_maker.specs.Holds.{FlushedHolds, Holds, MayWork}
use Rattle.partial_state.specs.Levels.{level_type}
use Rattle.frame_words.specs.Refs.{took}

-- ---- the lock
-- one lock on the table, which is of that level
pub record HoldsLockOf (v : PortValue) (f level : ℕ) : Type 0 where
  pub lock : Lock
  pub here : lock_on f v.holdings.locks ≡ Some lock
  pub kind : lock.kind ≡ level_type level

-- what `leave_lock` asks
pub record MayLeaveLock (v : PortValue) (f level : ℕ) : Type 0 where
  pub frame : f < v.post.machine.frames
  pub may : MayWork v
  pub low : 1 ≤ level
  pub high : level ≤ 4
  pub locked : HoldsLockOf v f level
  pub works : v.holdings.works ≡ []
  pub room : v.holdings.old1 ≡ Some 0

-- it is gone, with its reference; or the second old word names the table
abbrev pub LeavesUnlocked : PortValue → PortValue → ℕ → Type 0
LeavesUnlocked v w f = Holds v w (record v.holdings { locks = without_lock f v.holdings.locks }) ⊎ Holds v w (record v.holdings { locks = without_lock f v.holdings.locks; old1 = Some (f + 1) })

-- All that is in hand is the lock of the table, which is of that level and that domain's.
pub record HoldsTableLock (v : PortValue) (f level owner : ℕ) : Type 0 where
  pub lock : Lock
  pub locks : v.holdings.locks ≡ lock ∷ []
  pub frame : lock.frame ≡ f
  pub kind : lock.kind ≡ level_type level
  pub owned : lock.owner ≡ owners.Of owner
  pub others : IsEmptyHand (record v.holdings { locks = [] })

-- ---- what the new word asks
-- at level 1 frames of the one domain, above it of the tables' own
abbrev pub owner_at : ℕ → ℕ → ℕ → ℕ
owner_at level tables frames = if level == 1 then frames else tables

-- a reference to the frame that it names is in hand, a typed one to a live frame where it asks a type
abbrev pub holding : Demand → ℕ → Holdings → Holdings
holding (demands.Read g) owner h = took g owner h
holding (demands.Typed g t) owner h = record h { typed = live_typed g t (owners.Of owner) ∷ h.typed }
holding _ owner h = h

-- it is in hand; or nothing of it is, but for the first old word
abbrev pub LeavesDemand : PortValue → PortValue → Demand → ℕ → Result (Unit {0}) Stop → Type 0
LeavesDemand v w d owner (Ok done) = FlushedHolds v w (holding d owner v.holdings)
LeavesDemand v w d owner (Err e) = (a : Option ℕ) × FlushedHolds v w (record v.holdings { old0 = a })

-- ---- the whole
-- nothing is in hand; the old words may name frames
abbrev pub LeavesExchange : PortValue → PortValue → Type 0
LeavesExchange v w = (a b : Option ℕ) × FlushedHolds v w (record v.holdings { locks = []; old0 = a; old1 = b })
