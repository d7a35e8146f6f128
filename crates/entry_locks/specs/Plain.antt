-- A lock on a board that tells all words: what it answers and leaves, by the frame's kind word.
use Rattle.std.specs.Prelude.{◌≡◌, ℕ, true, false, Result, Ok, Err, IsTrue}
use Rattle.xp_words.specs.KindWords.{kind_fields, kind_write}
use Rattle.xp_words.specs.declared.place.Place.TheVariants.{Kind}
use Rattle.xp_words.specs.declared.reply.Pause.TheVariants.{Busy}
use Rattle.xp_words.specs.declared.reply.Stop.{Stop}
use Rattle.xp_words.specs.declared.reply.Stop.TheVariants.{Paused}
use Rattle.xp_board.specs.declared.step.Act.TheVariants.{Store}
use Rattle.xp_board.specs.KindSteps.{locked_kind}
use Rattle.xp_board.specs.Told.{PortValue, is_telling, told_word}
use Rattle.step_maker.specs.Plain.{Leaves, Words, change}
use Rattle.partial_state.specs.Levels.{level_type}
use Rattle.entry_locks.specs.Locks.{is_lockable, is_worked_on}
use Rattle.entry_locks.specs.declared.locking.Locked.{Locked}
use Rattle.entry_locks.specs.declared.locking.Locked.TheVariants.{Table, Other}

-- the word with the lock, and one type count more
abbrev pub with_lock : ℕ → Words → Words
with_lock f m = change (Store (kind_write (locked_kind (kind_fields (m (Kind f)))))) (Kind f) m

abbrev pub LocksPlainly : PortValue → ℕ → Words → Result Locked Stop → Type 0
LocksPlainly w f m (Ok (Table level x)) = (x ≡ m (Kind f)) × IsTrue (is_lockable (kind_fields x)) × ((kind_fields x).kind ≡ level_type level) × Leaves w (with_lock f m)
LocksPlainly w f m (Ok (Other x)) = (x ≡ m (Kind f)) × (is_lockable (kind_fields x) ≡ false) × (is_worked_on (kind_fields x) ≡ false) × Leaves w m
LocksPlainly w f m (Err (Paused (Busy g x))) = (g ≡ f) × (x ≡ m (Kind f)) × IsTrue (is_worked_on (kind_fields x)) × Leaves w m
LocksPlainly w f m (Err e) = ⊥

abbrev pub TwinLock : PortValue → PortValue → ℕ → Result Locked Stop → Type 0
TwinLock v w f answer = is_telling v ≡ true → LocksPlainly w f (told_word v) answer
