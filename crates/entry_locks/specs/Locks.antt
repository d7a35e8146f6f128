-- Entry locks: which frames are locked, and what is in hand then.
use Rattle.std.specs.Prelude.{◌≡◌, ℕ, ◌<◌, ◌≤◌, ◌==◌, ◌&&◌, ◌||◌, nat_lt, not, if◌then◌else◌, Bool, true, false, ◌∷◌, length, Some, None, Result, Ok, Err, IsTrue}
use Rattle.xp_words.specs.KindWords.{kind_fields, kind_write}
use Rattle.xp_words.specs.PageTypes.{is_table}
use Rattle.xp_words.specs.declared.kind.KindWord.{KindWord}
use Rattle.xp_words.specs.declared.place.Place.TheVariants.{Kind}
use Rattle.xp_words.specs.declared.reply.Pause.TheVariants.{Busy, Lost}
use Rattle.xp_words.specs.declared.reply.Stop.{Stop}
use Rattle.xp_words.specs.declared.reply.Stop.TheVariants.{Paused}
use Rattle.xp_board.specs.declared.holdings.Holdings.{Holdings}
use Rattle.xp_board.specs.declared.holdings.Lock.{Lock}
use Rattle.xp_board.specs.declared.holdings.OwnerFound.TheVariants as owners
use Rattle.xp_board.specs.declared.holdings.Work.{Work}
use Rattle.xp_board.specs.declared.step.Act.TheVariants.{Add}
use Rattle.xp_board.specs.declared.step.StepKind.TheVariants as kinds
use Rattle.xp_board.specs.Acts.{left_by}
use Rattle.xp_board.specs.Hands.{lock_on, lock_owner, without_lock, without_ref, work_on}
use Rattle.xp_board.specs.KindSteps.{locked, locked_kind, new_work, unlocked_down}
use Rattle.xp_board.specs.Readings.{is_closing, is_live, is_locked, is_work}
use Rattle.xp_board.specs.Told.{PortValue}
use Rattle.step_maker.specs.Holds.{Holds, Same}
use Rattle.step_maker.specs.Moves.{Moves}
use Rattle.step_maker.specs.Asked.{Request, of_frame}
use Rattle.kind_words.specs.Kinds.{looked_at}
use Rattle.partial_state.specs.Levels.{level_type}
use Rattle.entry_locks.specs.declared.locking.Locked.{Locked}
use Rattle.entry_locks.specs.declared.locking.Locked.TheVariants.{Table, Other}

-- ---- which frames
-- a live table that nobody has locked
abbrev pub is_lockable : KindWord → Bool
is_lockable k = (is_table k.kind && is_live k) && (not k.locked && nat_lt 0 k.number)

-- a table that another vCPU works on: in work, locked or closing
abbrev pub is_worked_on : KindWord → Bool
is_worked_on k = is_table k.kind && (is_work k || (is_locked k || is_closing k))

-- ---- one step
-- an untyped reference became the lock
abbrev pub took_lock : ℕ → KindWord → Holdings → Holdings
took_lock f k h = locked f k (looked_at f (kind_write (locked_kind k)) h)

-- ---- a call that may lock the frame
abbrev pub of_lock : ℕ → ℕ → Request
of_lock f owner = record (of_frame f owner None) { locks = true }

-- why it is not locked
abbrev pub IsLockStop : Stop → Type 0
IsLockStop (Paused (Lost place expected found)) = Unit {0}
IsLockStop (Paused (Busy f found)) = Unit {0}
IsLockStop _ = ⊥

-- the lock that came into the hand: nothing under it was looked at yet
pub record IsNewLock (f owner level made : ℕ) (e : Lock) : Type 0 where
  pub frame : e.frame ≡ f
  pub kind : e.kind ≡ level_type level
  pub owned : e.owner ≡ owners.Of owner
  pub unseen : e.seen ≡ None
  pub since : e.since ≤ made

-- an untyped reference became the lock of a table of that level
pub record HoldsLock (v w : PortValue) (f owner level : ℕ) : Type 0 where
  pub lock : Lock
  pub is : IsNewLock f owner level (length w.holdings.steps) lock
  pub low : 1 ≤ level
  pub high : level ≤ 4
  pub hand : Holds v w (record v.holdings { refs = without_ref f v.holdings.refs; locks = lock ∷ v.holdings.locks })

abbrev pub LeavesLocked : PortValue → PortValue → ℕ → ℕ → Result Locked Stop → Type 0
LeavesLocked v w f owner (Ok (Table level found)) = HoldsLock v w f owner level
LeavesLocked v w f owner (Ok (Other found)) = Same v w
LeavesLocked v w f owner (Err e) = Same v w

-- ---- unlocked
-- The lock and its type count went off that word, which was that of a live table of the lock's type, locked and not marked.
pub record UnlocksFrom (v w : PortValue) (f found : ℕ) (e : Lock) : Type 0 where
  pub step : Moves v w (Kind f) (Add unlocked_down) kinds.Kind None found
  pub live : IsTrue (is_live (kind_fields found))
  pub locked : (kind_fields found).locked ≡ true
  pub counted : 0 < (kind_fields found).number
  pub unmarked : (kind_fields found).unflushed ≡ false
  pub kind : (kind_fields found).kind ≡ e.kind
  pub apart : work_on f v.holdings.works ≡ None

-- the lock became an untyped reference
abbrev pub unlocked_hand : ℕ → Holdings → Holdings
unlocked_hand f h = record h { refs = record { frame = f; owner = lock_owner f h } ∷ h.refs; locks = without_lock f h.locks }

-- it was the last type count: the table is closing in the hand, with all its entries recorded
abbrev pub closing_unlocked : ℕ → ℕ → Holdings → Work
closing_unlocked f found h = new_work f (left_by (Add unlocked_down) found) 512 None h

pub record Unlocks (v w : PortValue) (f : ℕ) (last : Bool) : Type 0 where
  pub lock : Lock
  pub here : lock_on f v.holdings.locks ≡ Some lock
  pub found : ℕ
  pub unlocks : UnlocksFrom v w f found lock
  pub counts : last ≡ ((kind_fields found).number == 1)
  pub hand : Holds v w (if last then record (unlocked_hand f v.holdings) { works = closing_unlocked f found v.holdings ∷ v.holdings.works } else unlocked_hand f v.holdings)
