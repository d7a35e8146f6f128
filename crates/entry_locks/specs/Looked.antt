-- Between the look at a frame that is to be locked and the exchange of its word; and all that a lock ensures.
use Rattle.std.specs.Prelude.{◌≡◌, ℕ, ◌<◌, [], None, Result, IfErr}
use Rattle.xp_words.specs.declared.place.Place.TheVariants.{Kind}
use Rattle.xp_words.specs.declared.reply.Stop.{Stop}
use Rattle.xp_board.specs.declared.step.Act.TheVariants.{Load}
use Rattle.xp_board.specs.declared.step.StepKind.TheVariants as kinds
use Rattle.xp_board.specs.Told.{PortValue}
use Rattle.step_maker.specs.Holds.{MayWork, Same}
use Rattle.step_maker.specs.Moves.{Moves}
use Rattle.step_maker.specs.Answers.{Serves, Stops, misses}
use Rattle.step_maker.specs.Pauses.{IsElsewhere}
use Rattle.frame_types.specs.Taking.{LentBy}
use Rattle.entry_locks.specs.Found.{LocksFound}
use Rattle.entry_locks.specs.Locks.{IsLockStop, LeavesLocked, of_lock}
use Rattle.entry_locks.specs.Plain.{TwinLock}
use Rattle.entry_locks.specs.declared.locking.Locked.{Locked}

-- what `lock_entry` asks, of a frame and the newest untyped reference in hand
pub record MayLockEntry (v : PortValue) (f owner : ℕ) : Type 0 where
  pub frame : f < v.post.machine.frames
  pub may : MayWork v
  pub lent : LentBy f owner v.holdings
  pub apart : IsElsewhere f v.holdings
  pub looked : v.holdings.looking ≡ []

-- a look found that word, before any other step of the call; the vCPU has the frame in no own work
pub record SeenToLock (b v : PortValue) (f owner word : ℕ) : Type 0 where
  pub look : Moves b v (Kind f) Load kinds.Look None word
  pub same : Same b v
  pub frame : f < b.post.machine.frames
  pub lent : LentBy f owner b.holdings
  pub apart : IsElsewhere f b.holdings
  pub looked : b.holdings.looking ≡ []

abbrev pub IsSeenToLock : PortValue → ℕ → ℕ → ℕ → Type 0
IsSeenToLock v f owner word = (b : PortValue) × SeenToLock b v f owner word

-- what the call ensures
pub record LocksAs (v w : PortValue) (f owner : ℕ) (answer : Result Locked Stop) : Type 0 where
  pub serves : Serves v w (of_lock f owner) (misses v.post.machine answer)
  pub stops : IfErr answer (λ e. Stops v w (of_lock f owner) e)
  pub kinds : IfErr answer IsLockStop
  pub hand : LeavesLocked v w f owner answer
  pub found : LocksFound v w f answer
  pub plain : TwinLock v w f answer
