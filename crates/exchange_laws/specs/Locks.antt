-- A table that is locked again behind a call that was paused.
use Rattle.std.specs.Prelude.{◌≡◌, ℕ, true, Ok}
use Rattle.xp_board.specs.Told.{PortValue, is_telling, told_word}
use Rattle.step_maker.specs.Twins.{Alike}
use Rattle.table_entries.specs.Acquiring.{GotRef}
use Rattle.entry_locks.specs.Plain.{TwinLock}
use Rattle.entry_locks.specs.declared.locking.Locked.TheVariants.{Table}

-- From v, maybe in another turn, on words that are alike but for stamps, the clock and the words of flushes: a reference to the table is taken, and the lock.
pub record LocksAgain (v w : PortValue) (f owner level : ℕ) : Type 0 where
  pub next : PortValue
  pub machine : next.post.machine ≡ v.post.machine
  pub telling : is_telling next ≡ true
  pub words : Alike (told_word next) (told_word v)
  pub referred : PortValue
  pub reference : GotRef next referred f owner (Ok f)
  pub found : ℕ
  pub lock : TwinLock referred w f (Ok (Table level found))
