-- Lists of `mmu_update`: which steps fit a pair, for whose tables and frames, and what it asks the gate.
use Rattle.std.specs.Prelude.{◌≡◌, ◌%◌, ◌⊎◌, ℕ, ◌<◌, ◌≤◌, Bool, true, false, List, [], ◌++◌, length, slice_get, Option, Some, None, Result, Ok, Err, IfErr, All}
use Rattle.xp_words.specs.declared.ops.Pair.{Pair}
use Rattle.xp_words.specs.declared.reply.Refusal.{Refusal}
use Rattle.xp_words.specs.declared.reply.Refusal.TheVariants as refusals
use Rattle.xp_words.specs.declared.reply.Stop.{Stop}
use Rattle.xp_words.specs.declared.reply.Stop.TheVariants.{Refused, Paused}
use Rattle.xp_board.specs.Told.{PortValue}
use Rattle.step_maker.specs.Holds.{Same}
use Rattle.step_maker.specs.Answers.{Serves, Stops}
use Rattle.foreign_map.specs.Owning.{MayMapFor, FoundOwners, of_owners, TwinOwners}
use Rattle.foreign_map.specs.declared.owners.Owners.{Owners}
use Rattle.mmu_update.specs.Elements as pairs
use Rattle.mmu_update.specs.Fits.{Updates}
use Rattle.xp_words.specs.Entries.{is_slot}
use Rattle.xp_words.specs.declared.kind.PageType.{PageType}
use Rattle.xp_words.specs.declared.reply.Pause.TheVariants.{Due}
use Rattle.xp_preempt.specs.Gates.{ends_yes, yeses}
use Rattle.partial_state.specs.Levels.{level_type}
use Rattle.table_entries.specs.Acquiring.{GotRef}
use Rattle.level_release.specs.Course.{WasReleased}
use Rattle.mmu_update.specs.Exchanges as exchanging
use Rattle.mmu_update.specs.Exchanges.{EntryUpdate, Exchanged, LeftLock, new_demand, old_demand, asks_table}
use Rattle.entry_locks.specs.declared.locking.Locked.TheVariants.{Table}
use Rattle.mmu_update.specs.Course.{TriedLock, entry_update}
use Rattle.mmu_update.specs.Elements.{element_of}
use Rattle.mmu_update.specs.declared.element.Element.TheVariants.{Write}
use Rattle.vcpu_turn.specs.Lists.{Fitting, IsRefusedWhole, Tried, WorksOn, tried_in}
use Rattle.vcpu_turn.specs.Settling.{IsWarm, Settles, SettlesFirst}

abbrev pub FitsPair : Owners → Option Pair → PortValue → PortValue → List Bool → Result (Unit {0}) Stop → Type 0
FitsPair o (Some p) v w answers answer = SettlesFirst (Updates o (pairs.element_of p)) v w answers answer
FitsPair o None v w answers answer = ⊥

-- pair number k, for tables and frames of those owners
abbrev pub PairFits : Owners → List Pair → Fitting
PairFits o list k v w answers answer = FitsPair o (slice_get list k) v w answers answer

-- such pairs may go on from that port
pub record SuitsPairs (o : Owners) (v : PortValue) : Type 0 where
  pub may : MayMapFor v o
  pub warm : IsWarm v

-- whose they are is read in each turn, or why not
pub record FindsOwners (v w : PortValue) (d foreign : ℕ) (answer : Result Owners Refusal) : Type 0 where
  pub serves : Serves v w (of_owners v.post.machine d foreign) []
  pub stops : IfErr answer (λ x. Stops v w (of_owners v.post.machine d foreign) (Refused x))
  pub found : FoundOwners v w d foreign answer
  pub plain : TwinOwners v w d foreign answer
  pub hand : Same v w

-- A list of pairs that is not empty is about owners that are named by a number, which may refuse it in each turn.
pub data WorksOwned (d foreign : ℕ) (list : List Pair) (v : PortValue) (from : ℕ) : ℕ → PortValue → List Bool → Result (Unit {0}) Stop → Type 0 where
  long : (to : ℕ) (w : PortValue) (answers : List Bool) (answer : Result (Unit {0}) Stop) → 512 < length list → IsRefusedWhole refusals.BatchLong v to w answers answer → WorksOwned d foreign list v from to w answers answer
  none : length list ≡ 0 → WorksOwned d foreign list v from from v [] (Ok tt)
  unowned : (w : PortValue) (x : Refusal) → 0 < length list → length list ≤ 512 → FindsOwners v w d foreign (Err x) → WorksOwned d foreign list v from from w [] (Err (Refused x))
  owned : (to : ℕ) (u w : PortValue) (o : Owners) (answers : List Bool) (answer : Result (Unit {0}) Stop) → 0 < length list → length list ≤ 512 → FindsOwners v u d foreign (Ok o) →
      WorksOn (PairFits o list) (length list) from u to w answers answer → WorksOwned d foreign list v from to w answers answer

-- the pairs that a turn tried
abbrev pub tried_owned : {d foreign : ℕ} {list : List Pair} {v : PortValue} {from to : ℕ} {w : PortValue} {answers : List Bool} {answer : Result (Unit {0}) Stop} → WorksOwned d foreign list v from to w answers answer → List Tried
tried_owned (WorksOwned.long to w answers answer above whole) = []
tried_owned (WorksOwned.none empty) = []
tried_owned (WorksOwned.unowned w x some few finds) = []
tried_owned (WorksOwned.owned to u w o answers answer some few finds on) = tried_in on

-- ---- what a pair asks the gate
-- Commands 0 and 2, the low two bits of the address, write a word, which may be an entry that asks something. Its release may be paused by the gate; the element is done all the same.
abbrev pub IsNoWrite : Pair → Type 0
IsNoWrite p = (p.ptr % 4 ≡ 1) ⊎ (p.ptr % 4 ≡ 3)

-- The element wrote a word of a live table: behind what was settled first it took the table's lock, and went through an exchange of the entry,
-- done or not; what the gate was asked within is what those two asked.
pub record ExchangesEntry (pairs : List Pair) (t : Tried) : Type 0 where
  pub owners : Owners
  pub pair : Pair
  pub at : slice_get pairs t.number ≡ Some pair
  pub frame : ℕ
  pub index : ℕ
  pub word : ℕ
  pub keep : Bool
  pub writes : element_of pair ≡ Write frame index word keep
  pub settled : PortValue
  pub referred : PortValue
  pub held : PortValue
  pub level : ℕ
  pub found : ℕ
  pub early : List Bool
  pub answers : List Bool
  pub settles : Settles None t.before settled early (Ok tt)
  pub got : GotRef settled referred frame owners.tables (Ok frame)
  pub locked : TriedLock referred held frame owners.tables (Ok (Table level found))
  pub open_slot : is_slot (level_type level) index ≡ false
  pub exchanged : Exchanged held (entry_update frame level index word keep) owners t.behind answers t.answer
  pub asked : t.asked ≡ answers ++ early

abbrev pub IsLast : {v : PortValue} {f level : ℕ} {w : PortValue} → LeftLock v f level w → Type 0
IsLast (exchanging.LeftLock.shared u w unlocks gave) = ⊥
IsLast (exchanging.LeftLock.last u y w found unlocks parks names) = Unit {0}

abbrev pub MovesTable : {v : PortValue} {x : EntryUpdate} {o : Owners} {w : PortValue} {answers : List Bool} {answer : Result (Unit {0}) Stop} → Exchanged v x o w answers answer → Type 0
MovesTable (exchanging.Exchanged.bad u w seen saw is left) = ⊥
MovesTable (exchanging.Exchanged.same u y w seen old saw is put left) = IsLast left
MovesTable (exchanging.Exchanged.unput u y w seen stop saw is put left) = ⊥
MovesTable {v} {x} (exchanging.Exchanged.untaken u y w seen answers stop saw off took left) = asks_table (new_demand x seen) ≡ true
MovesTable {v} {x} (exchanging.Exchanged.lost u y z a w seen answers stop saw off took put gave left) = asks_table (new_demand x seen) ≡ true
MovesTable {v} {x} (exchanging.Exchanged.done u y z a w seen old answers more saw off took put left gone) =
    (asks_table (new_demand x seen) ≡ true) ⊎ ((asks_table (old_demand x old) ≡ true) ⊎ IsLast left)

-- the element went through such an exchange
abbrev pub MovesATable : List Pair → Tried → Type 0
MovesATable pairs t = (e : ExchangesEntry pairs t) × MovesTable e.exchanged

-- none did: each sets a machine-to-physical word, writes into ordinary memory, or exchanges an entry without a table
abbrev pub MovesNoTable : List Pair → List Tried → Type 0
MovesNoTable pairs items = All (λ t. MovesATable pairs t → ⊥) items

-- The exchange is done, and the gate paused the release of what the old word asked: within the element it said yes at last, and no before.
pub record PausesRelease (pairs : List Pair) (t : Tried) : Type 0 where
  pub exchange : ExchangesEntry pairs t
  pub done : t.answer ≡ Ok tt
  pub unlocked : PortValue
  pub frame : ℕ
  pub kind : PageType
  pub first : List Bool
  pub more : List Bool
  pub released : WasReleased unlocked frame kind t.behind more (Err (Paused Due))
  pub asked : t.asked ≡ more ++ first
  pub early : yeses t.asked ≡ 1
  pub last : ends_yes t.asked ≡ true
