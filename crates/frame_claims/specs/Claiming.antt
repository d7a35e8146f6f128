-- A claim as a whole: whom its steps serve, and what is in hand between its parts.
use Rattle.std.specs.Prelude.{◌≡◌, ℕ, ◌+◌, ◌%◌, ◌<◌, ◌≤◌, List, [], length, slice_index, Some, Result, Ok, Err}
use Rattle.xp_words.specs.declared.reply.Pause.TheVariants.{Lost, Flush}
use Rattle.xp_words.specs.declared.reply.Refusal.TheVariants.{Clock, DomainFull, NoFree}
use Rattle.xp_words.specs.declared.reply.Stop.{Stop}
use Rattle.xp_words.specs.declared.reply.Stop.TheVariants.{Refused, Paused}
use Rattle.xp_board.specs.Told.{PortValue}
use Rattle.step_maker.specs.Holds.{FlushedSame}
use Rattle.step_maker.specs.Moves.{Came}
use Rattle.step_maker.specs.Answers.{Deed, Serves, Stops, missed}
use Rattle.step_maker.specs.Asked.{Request}
use Rattle.frame_claims.specs.Blocks.{HasRow, IsBlockOf, given_deeds}
use Rattle.frame_claims.specs.Choosing.{StillFree}

-- a call that takes pages
pub record TakesPages (r : Request) : Type 0 where
  pub number : ℕ
  pub pages : r.pages ≡ Some number

abbrev pub ServesPages : PortValue → PortValue → List Deed → Type 0
ServesPages v w ds = (r : Request) → TakesPages r → Serves v w r ds

-- why a claim stops
abbrev pub IsClaimStop : Stop → Type 0
IsClaimStop (Refused (DomainFull found)) = Unit {0}
IsClaimStop (Refused NoFree) = Unit {0}
IsClaimStop (Refused (Clock found)) = Unit {0}
IsClaimStop (Paused (Lost place expected found)) = Unit {0}
IsClaimStop (Paused (Flush vcpu stamp found)) = Unit {0}
IsClaimStop _ = ⊥

-- a call that takes blocks of that size, and may take this one
pub record TakesBlock (r : Request) (first size : ℕ) : Type 0 where
  pub asks : IsBlockOf r first size
  pub block : r.block ≡ Some size

-- The steps from v to w serve each such call, and a guest sees these deeds of them. The block is aligned.
pub record ServesWhole (v w : PortValue) (first size : ℕ) (ds : List Deed) : Type 0 where
  pub aligned : first % size ≡ 0
  pub serves : (r : Request) → TakesBlock r first size → Serves v w r ds

-- the steps take the block that is answered; or of some block, and show what was lost
abbrev pub ServesTaken : PortValue → PortValue → ℕ → Result ℕ Stop → Type 0
ServesTaken v w size (Ok first) = ServesWhole v w first size []
ServesTaken v w size (Err e) = (b : ℕ) × ServesWhole v w b size (missed v.post.machine e)

abbrev pub ServesClaim : PortValue → PortValue → ℕ → Result ℕ Stop → Type 0
ServesClaim v w size (Ok first) = ServesWhole v w first size (given_deeds first size)
ServesClaim v w size (Err e) = (b : ℕ) × ServesWhole v w b size (missed v.post.machine e)

-- ---- why it stops
-- The steps from v to w show it to each call that takes at least so many pages.
abbrev pub StopsPages : PortValue → PortValue → ℕ → Stop → Type 0
StopsPages v w size e = (r : Request) → (t : TakesPages r) → size ≤ t.number → Stops v w r e

-- Behind looks that found each frame of the block free, they show it to each call that may take it.
abbrev pub StopsTaking : PortValue → PortValue → ℕ → List ℕ → Stop → Type 0
StopsTaking v w first stamps e =
    (u : PortValue) → Came u v → ((j : ℕ) → j < length stamps → StillFree u v (first + j) (slice_index stamps j)) → (r : Request) → IsBlockOf r first (length stamps) → Stops u w r e

-- They show it to each call that takes one such block or more, and may take this one. The block is aligned.
abbrev pub StopsClaim : PortValue → PortValue → ℕ → Stop → Type 0
StopsClaim v w size e = (b : ℕ) × (b % size ≡ 0) × ((r : Request) → (t : TakesBlock r b size) → size ≤ t.asks.number → Stops v w r e)

-- ---- what is in hand
-- what is in hand behind the wait: the block, or the pages that were counted for it
pub record TookBlock (v w : PortValue) (d size first : ℕ) (stamps : List ℕ) : Type 0 where
  pub between : PortValue
  pub flushed : FlushedSame v between
  pub whole : length stamps ≡ size
  pub inside : first + size ≤ v.post.machine.frames
  pub row : HasRow between w first stamps d 0

pub record TookNone (v w : PortValue) (d size : ℕ) : Type 0 where
  pub between : PortValue
  pub at : ℕ
  pub flushed : FlushedSame v between
  pub row : HasRow between w at [] d size

abbrev pub Took : PortValue → PortValue → ℕ → ℕ → List ℕ → Result ℕ Stop → Type 0
Took v w d size stamps (Ok first) = TookBlock v w d size first stamps
Took v w d size stamps (Err e) = TookNone v w d size
