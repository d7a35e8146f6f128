-- Between the calls of a write: what is known behind each, from the port before the first of them; and all that the write says.
use Rattle.std.specs.Prelude.{◌≡◌, ℕ, ◌<◌, Bool, [], None, Some, Result, Ok}
use Rattle.xp_words.specs.declared.reply.Stop.{Stop}
use Rattle.xp_board.specs.Told.{PortValue}
use Rattle.step_maker.specs.Holds.{Holds, Rests, Same}
use Rattle.step_maker.specs.Answers.{Serves}
use Rattle.step_maker.specs.Asked.{of_frame}
use Rattle.entry_locks.specs.Locks.{HoldsLock, of_lock}
use Rattle.entry_locks.specs.declared.locking.Locked.TheVariants.{Table, Other}
use Rattle.foreign_map.specs.Owning.{MayMapFor}
use Rattle.foreign_map.specs.declared.owners.Owners.{Owners}
use Rattle.frame_words.specs.Refs.{took}
use Rattle.table_entries.specs.Acquiring.{GotRef}
use Rattle.table_words.specs.OldWords.{known_old}
use Rattle.table_words.specs.declared.old_words.OldWord.TheVariants.{First, Second}
use Rattle.mmu_update.specs.Course.{TriedLock}
use Rattle.mmu_update.specs.Fits.{Updates}
use Rattle.mmu_update.specs.declared.element.Element.TheVariants.{Write}
use Rattle.xp_preempt.specs.Gates.{Gate, GatedPast}
use Rattle.table_entries.specs.Ending.{is_due_answer}

-- before it
pub record MayBeginElement (b : PortValue) (o : Owners) : Type 0 where
  pub rests : Rests b
  pub maps : MayMapFor b o
  pub room : known_old First b.holdings ≡ Some 0
  pub room_too : known_old Second b.holdings ≡ Some 0

-- a reference to the frame was taken
pub record Referred (b v : PortValue) (o : Owners) (f : ℕ) : Type 0 where
  pub begins : MayBeginElement b o
  pub frame : f < b.post.machine.frames
  pub got : GotRef b v f o.tables (Ok f)
  pub serves : Serves b v (of_frame f o.tables None) []
  pub hand : Holds b v (took f o.tables b.holdings)

-- and the frame is no live table, nor one that another vCPU works on
pub record Ordinary (b v : PortValue) (o : Owners) (f : ℕ) : Type 0 where
  pub at : PortValue
  pub found : ℕ
  pub referred : Referred b at o f
  pub tried : TriedLock at v f o.tables (Ok (Other found))
  pub serves : Serves at v (of_lock f o.tables) []
  pub same : Same at v

-- or it is one of that level, and under the own lock
pub record UnderLock (b v : PortValue) (o : Owners) (f level : ℕ) : Type 0 where
  pub at : PortValue
  pub found : ℕ
  pub referred : Referred b at o f
  pub tried : TriedLock at v f o.tables (Ok (Table level found))
  pub serves : Serves at v (of_lock f o.tables) []
  pub holds : HoldsLock at v f o.tables level

abbrev pub IsReferred : PortValue → Owners → ℕ → Type 0
IsReferred v o f = (b : PortValue) × Referred b v o f

abbrev pub IsOrdinary : PortValue → Owners → ℕ → Type 0
IsOrdinary v o f = (b : PortValue) × Ordinary b v o f

abbrev pub IsUnderLock : PortValue → Owners → ℕ → ℕ → Type 0
IsUnderLock v o f level = (b : PortValue) × UnderLock b v o f level

-- the write is done, or why not, with the answers of its gate
abbrev pub WritesBy : PortValue → PortValue → Owners → ℕ → ℕ → ℕ → Bool → Gate → Gate → Result (Unit {0}) Stop → Type 0
WritesBy b w o f i word keep g h answer = GatedPast g h (is_due_answer answer) (λ answers. Updates o (Write f i word keep) b w answers answer)
