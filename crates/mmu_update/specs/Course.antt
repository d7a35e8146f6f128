-- The course of an element: the calls that it makes, from port to port, and the answers of the gate, the newest first.
use Rattle.std.specs.Prelude.{◌≡◌, ℕ, Bool, true, false, List, [], None, Result, Ok, Err, IfErr}
use Rattle.xp_words.specs.Entries.{is_slot}
use Rattle.xp_words.specs.declared.kind.PageType.TheVariants.{Writable}
use Rattle.xp_words.specs.declared.place.Place.TheVariants.{Cell}
use Rattle.xp_words.specs.declared.reply.Refusal.TheVariants as refusals
use Rattle.xp_words.specs.declared.reply.Stop.{Stop}
use Rattle.xp_words.specs.declared.reply.Stop.TheVariants.{Refused}
use Rattle.xp_board.specs.declared.step.Act.TheVariants.{Store}
use Rattle.xp_board.specs.declared.step.StepKind.TheVariants as kinds
use Rattle.xp_board.specs.Told.{PortValue}
use Rattle.step_maker.specs.Moves.{Moves}
use Rattle.step_maker.specs.Answers.{Stops}
use Rattle.entry_exchange.specs.Course.{Exchanged, LeftLock}
use Rattle.entry_exchange.specs.declared.exchanging.EntryUpdate.{EntryUpdate}
use Rattle.entry_locks.specs.Found.{LocksFound}
use Rattle.entry_locks.specs.Locks.{of_lock}
use Rattle.entry_locks.specs.Plain.{TwinLock}
use Rattle.entry_locks.specs.declared.locking.Locked.{Locked}
use Rattle.entry_locks.specs.declared.locking.Locked.TheVariants.{Table, Other}
use Rattle.foreign_map.specs.declared.owners.Owners.{Owners}
use Rattle.m2p_map.specs.Found.{SetFound}
use Rattle.m2p_map.specs.Maps.{TwinSet}
use Rattle.partial_state.specs.Levels.{level_type}
use Rattle.table_entries.specs.Acquiring.{GaveRef, GaveType, GotRef}
use Rattle.writable_pages.specs.Pages.{TookPage}
use Rattle.mmu_update.specs.declared.element.Element.{Element}
use Rattle.mmu_update.specs.declared.element.Element.TheVariants.{SetM2p, Write, Misaligned, Unknown}
use Rattle.xp_preempt.specs.Gates.{Gate, GatedPast}
use Rattle.table_entries.specs.Ending.{is_due_answer}

-- a lock is tried: by the words that its steps found; on a board that tells all words; and what the steps show of its pause
pub record TriedLock (v w : PortValue) (f owner : ℕ) (answer : Result Locked Stop) : Type 0 where
  pub found : LocksFound v w f answer
  pub plain : TwinLock v w f answer
  pub stops : IfErr answer (λ e. Stops v w (of_lock f owner) e)

abbrev pub entry_update : ℕ → ℕ → ℕ → ℕ → Bool → EntryUpdate
entry_update f level i word keep = record { table = f; level = level; index = i; word = word; keep = keep }

-- A word is written: with a reference of its own the frame is locked, where it is a live table, and the entry exchanged, but for Xen's slots;
-- else it is taken as ordinary memory, the word stored, and all given back.
pub data Wrote (v : PortValue) (o : Owners) (f i word : ℕ) (keep : Bool) : PortValue → List Bool → Result (Unit {0}) Stop → Type 0 where
  unreferred : (w : PortValue) (stop : Stop) → GotRef v w f o.tables (Err stop) → Wrote v o f i word keep w [] (Err stop)
  unlocked : (u y w : PortValue) (stop : Stop) → GotRef v u f o.tables (Ok f) → TriedLock u y f o.tables (Err stop) → GaveRef y w f → Wrote v o f i word keep w [] (Err stop)
  slot : (u y w : PortValue) (level found : ℕ) → GotRef v u f o.tables (Ok f) → TriedLock u y f o.tables (Ok (Table level found)) → is_slot (level_type level) i ≡ true → LeftLock y f level w →
      Wrote v o f i word keep w [] (Err (Refused (refusals.Slot i)))
  exchanged : (u y w : PortValue) (level found : ℕ) (answers : List Bool) (answer : Result (Unit {0}) Stop) → GotRef v u f o.tables (Ok f) → TriedLock u y f o.tables (Ok (Table level found)) →
      is_slot (level_type level) i ≡ false → Exchanged y (entry_update f level i word keep) o w answers answer → Wrote v o f i word keep w answers answer
  untaken : (u y w : PortValue) (found : ℕ) (stop : Stop) → GotRef v u f o.tables (Ok f) → TriedLock u y f o.tables (Ok (Other found)) → TookPage y f o.tables w (Err stop) →
      Wrote v o f i word keep w [] (Err stop)
  stored : (u y a b w : PortValue) (found old : ℕ) → GotRef v u f o.tables (Ok f) → TriedLock u y f o.tables (Ok (Other found)) → TookPage y f o.tables a (Ok tt) →
      Moves a b (Cell f i) (Store word) kinds.Cell None old → GaveType b w f Writable → Wrote v o f i word keep w [] (Ok tt)

-- one that its numbers refuse makes no step and asks nothing
abbrev pub Updated : PortValue → Owners → Element → PortValue → List Bool → Result (Unit {0}) Stop → Type 0
Updated v o (SetM2p f gpfn) w answers answer = (answers ≡ []) × SetFound v w f o.frames gpfn answer × TwinSet v w f o.frames gpfn answer
Updated v o (Write f i word keep) w answers answer = Wrote v o f i word keep w answers answer
Updated v o Misaligned w answers answer = (w ≡ v) × (answers ≡ []) × (answer ≡ Err (Refused refusals.BadRange))
Updated v o Unknown w answers answer = (w ≡ v) × (answers ≡ []) × (answer ≡ Err (Refused refusals.BadCommand))

abbrev pub UpdatesBy : PortValue → PortValue → Owners → Element → Gate → Gate → Result (Unit {0}) Stop → Type 0
UpdatesBy v w o e g h answer = GatedPast g h (is_due_answer answer) (λ answers. Updated v o e w answers answer)
