-- Updates by address: the loads that lead to the table of level 1, what is asked of that table, and the calls that follow.
use Rattle.std.specs.Prelude.{◌≡◌, ◌≢◌, ℕ, ◌-◌, ◌<◌, ◌≤◌, ◌&&◌, nat_lt, if◌then◌else◌, true, false, Bool, List, [], Option, None, Some, Result, Ok, Err}
use Rattle.xp_words.specs.Entries.{frame_of, is_bit}
use Rattle.xp_words.specs.declared.kind.PageType.TheVariants.{L1}
use Rattle.xp_words.specs.declared.place.Place.TheVariants.{Vcpu}
use Rattle.xp_words.specs.declared.reply.Refusal.{Refusal}
use Rattle.xp_words.specs.declared.reply.Refusal.TheVariants as refusals
use Rattle.xp_words.specs.declared.reply.Stop.{Stop}
use Rattle.xp_words.specs.declared.reply.Stop.TheVariants.{Refused}
use Rattle.xp_board.specs.declared.step.Act.TheVariants.{Load}
use Rattle.xp_board.specs.declared.step.StepKind.TheVariants as kinds
use Rattle.xp_board.specs.Told.{PortValue}
use Rattle.step_maker.specs.Moves.{Moves}
use Rattle.step_maker.specs.Answers.{Deed, Serves}
use Rattle.step_maker.specs.Asked.{Request}
use Rattle.step_maker.specs.Licences.{is_unmapped}
use Rattle.entry_exchange.specs.Asking.{HasExchangeDeeds, of_exchange}
use Rattle.entry_exchange.specs.Course.{Exchanged, LeftLock, SawEntry}
use Rattle.entry_locks.specs.declared.locking.Locked.TheVariants.{Table, Other}
use Rattle.foreign_map.specs.declared.owners.Owners.{Owners}
use Rattle.table_entries.specs.Acquiring.{GaveRef, GotRef}
use Rattle.tlb_walks.specs.Addresses.{index_of, walk_refusal}
use Rattle.mmu_update.specs.Course.{TriedLock, entry_update}
use Rattle.mmu_update.specs.Elements.{IsWriteStop}

-- ---- the way
-- the own word that names the kernel's top table
abbrev pub SawBase : PortValue → PortValue → ℕ → Type 0
SawBase v w base = Moves v w (Vcpu v.post.vcpu 0) Load kinds.Look None base

-- the frame that an entry names, of a machine with so many
abbrev pub next_table : ℕ → ℕ → Option ℕ
next_table frames entry = if is_bit 0 entry && nat_lt (frame_of entry) frames then Some (frame_of entry) else None

-- From a table of that level down to level 2: the entry by which the address leads is loaded, and nothing done to it. One that is not present, or
-- names no frame of the machine, ends the way; the one of level 2 names the table of level 1.
pub data Descends (va : ℕ) (w : PortValue) (answer : Result ℕ Stop) : PortValue → ℕ → ℕ → Type 0 where
  unmapped : (v : PortValue) (level table entry : ℕ) → SawEntry v w table (index_of va level) entry → is_unmapped v.post.machine entry ≡ true →
      answer ≡ Err (Refused (refusals.NotMapped level entry)) → Descends va w answer v level table
  reached : (v : PortValue) (level table entry : ℕ) → level ≡ 2 → SawEntry v w table (index_of va level) entry → is_unmapped v.post.machine entry ≡ false → answer ≡ Ok (frame_of entry) →
      Descends va w answer v level table
  goes : (v u : PortValue) (level table entry : ℕ) → 2 < level → SawEntry v u table (index_of va level) entry → is_unmapped v.post.machine entry ≡ false →
      Descends va w answer u (level - 1) (frame_of entry) → Descends va w answer v level table

-- By these loads alone the address leads to the table of level 1 in the own kernel's tables, or it does not: barred by its numbers, without a step.
pub data Leads (v : PortValue) (va : ℕ) (w : PortValue) (answer : Result ℕ Stop) : Type 0 where
  barred : (x : Refusal) → walk_refusal va ≡ Some x → w ≡ v → answer ≡ Err (Refused x) → Leads v va w answer
  unbased : walk_refusal va ≡ None → SawBase v w 0 → answer ≡ Err (Refused (refusals.NotMapped 5 0)) → Leads v va w answer
  based : (u : PortValue) (base : ℕ) → walk_refusal va ≡ None → base ≢ 0 → SawBase v u base → Descends va w answer u 4 (base - 1) → Leads v va w answer

-- ---- what is asked
-- the exchange of one entry of that table, which its loads found as a walk would; and the address, which may refuse it
abbrev pub of_at : Owners → ℕ → ℕ → ℕ → Result (Unit {0}) Stop → Request
of_at o va table word answer = record (of_exchange (entry_update table 1 (index_of va 1) word false) o answer) { walks = true; by_numbers = walk_refusal va }

-- Done, it has the one deed: the entry that was there, and the word.
abbrev pub ServesAt : PortValue → PortValue → Owners → ℕ → ℕ → ℕ → Result (Unit {0}) Stop → Type 0
ServesAt v w o va table word answer =
    (ds : List Deed) × HasExchangeDeeds v.post.machine (entry_update table 1 (index_of va 1) word false) answer ds × Serves v w (of_at o va table word answer) ds

-- why it is not done
abbrev pub IsAtStop : Stop → Type 0
IsAtStop (Refused refusals.NonCanonical) = Unit {0}
IsAtStop (Refused (refusals.NotMapped level entry)) = Unit {0}
IsAtStop e = IsWriteStop e

-- ---- the calls
-- With a reference of its own the table is locked, where it is a live one of level 1, and its entry exchanged; any other frame is refused, and the
-- lock of another table taken off again.
pub data EnteredAt (v : PortValue) (o : Owners) (table i word : ℕ) : PortValue → List Bool → Result (Unit {0}) Stop → Type 0 where
  unreferred : (w : PortValue) (stop : Stop) → GotRef v w table o.tables (Err stop) → EnteredAt v o table i word w [] (Err stop)
  unlocked : (u y w : PortValue) (stop : Stop) → GotRef v u table o.tables (Ok table) → TriedLock u y table o.tables (Err stop) → GaveRef y w table → EnteredAt v o table i word w [] (Err stop)
  other : (u y w : PortValue) (found : ℕ) → GotRef v u table o.tables (Ok table) → TriedLock u y table o.tables (Ok (Other found)) → GaveRef y w table →
      EnteredAt v o table i word w [] (Err (Refused (refusals.OtherType table L1 found)))
  level : (u y w : PortValue) (level found : ℕ) → GotRef v u table o.tables (Ok table) → TriedLock u y table o.tables (Ok (Table level found)) → level ≢ 1 → LeftLock y table level w →
      EnteredAt v o table i word w [] (Err (Refused (refusals.OtherType table L1 found)))
  exchanged : (u y w : PortValue) (found : ℕ) (answers : List Bool) (answer : Result (Unit {0}) Stop) → GotRef v u table o.tables (Ok table) → TriedLock u y table o.tables (Ok (Table 1 found)) →
      Exchanged y (entry_update table 1 i word false) o w answers answer → EnteredAt v o table i word w answers answer

-- The address leads to no table, and `table` is no frame of the machine; or it leads to that table, whose entry is exchanged, or not.
pub data UpdatedAt (v : PortValue) (o : Owners) (va word table : ℕ) : PortValue → List Bool → Result (Unit {0}) Stop → Type 0 where
  unled : (w : PortValue) (stop : Stop) → v.post.machine.frames ≤ table → Leads v va w (Err stop) → UpdatedAt v o va word table w [] (Err stop)
  led : (u w : PortValue) (answers : List Bool) (answer : Result (Unit {0}) Stop) → Leads v va u (Ok table) → EnteredAt u o table (index_of va 1) word w answers answer →
      UpdatedAt v o va word table w answers answer
