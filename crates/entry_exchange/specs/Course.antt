-- The course of an exchange: the calls that it makes, from port to port, and the answers of the gate, the newest first.
use Rattle.std.specs.Prelude.{◌≡◌, ◌≢◌, ℕ, ◌+◌, ◌-◌, ◌≤◌, Bool, true, false, List, [], ◌++◌, None, Result, Ok, Err, IfErr}
use Rattle.xp_words.specs.Entries.{demand_at}
use Rattle.xp_words.specs.KindWords.{kind_write}
use Rattle.xp_words.specs.Places.{number, sizes_of}
use Rattle.xp_words.specs.declared.entry.Demand.{Demand}
use Rattle.xp_words.specs.declared.entry.Demand.TheVariants as demands
use Rattle.xp_words.specs.declared.kind.PageType.{PageType}
use Rattle.xp_words.specs.declared.kind.PageType.TheVariants.{Writable}
use Rattle.xp_words.specs.declared.place.Place.TheVariants.{Cell, Kind}
use Rattle.xp_words.specs.declared.reply.Pause.TheVariants.{Due, Lost}
use Rattle.xp_words.specs.declared.reply.Refusal.TheVariants.{Reserved}
use Rattle.xp_words.specs.declared.reply.Stop.{Stop}
use Rattle.xp_words.specs.declared.reply.Stop.TheVariants.{Paused, Refused}
use Rattle.xp_board.specs.declared.step.Act.TheVariants.{Cas, Load, Store}
use Rattle.xp_board.specs.declared.step.StepKind.TheVariants as kinds
use Rattle.xp_board.specs.Told.{PortValue}
use Rattle.step_maker.specs.Moves.{Moves}
use Rattle.kind_words.specs.Kinds.{partial_kind}
use Rattle.kept_marks.specs.Marks.{KeptFor}
use Rattle.entry_locks.specs.Locks.{Unlocks}
use Rattle.foreign_map.specs.declared.owners.Owners.{Owners}
use Rattle.frame_types.specs.Lowering.{DropsType}
use Rattle.partial_state.specs.Levels.{level_type}
use Rattle.table_entries.specs.Acquiring.{Acquired, GaveRef, GaveType, GotRef}
use Rattle.table_words.specs.OldWords.{old_place}
use Rattle.table_words.specs.declared.old_words.OldWord.TheVariants.{Second}
use Rattle.writable_pages.specs.Pages.{GotPage}
use Rattle.level_release.specs.Course.{WasReleased}
use Rattle.entry_exchange.specs.declared.exchanging.EntryUpdate.{EntryUpdate}
use Rattle.entry_exchange.specs.Holding.{owner_at}
use Rattle.entry_exchange.specs.Words.{same_demand, word_kept}
use Rattle.xp_preempt.specs.Gates.{Gate, GatedPast}
use Rattle.table_entries.specs.Ending.{is_due_answer}

-- ---- the lock goes off
-- with the reference; or with the table's last type count, and then the second old word names it, partial with all its entries recorded
pub data LeftLock (v : PortValue) (f level : ℕ) : PortValue → Type 0 where
  shared : (u w : PortValue) → Unlocks v u f false → GaveRef u w f → LeftLock v f level w
  last : (u y w : PortValue) (found : ℕ) → Unlocks v u f true → Moves u y (Kind f) (Store (kind_write (partial_kind (level_type level) false false 512 0))) kinds.Kind None found →
      Moves y w (old_place v.post.vcpu Second) (Store (f + 1)) kinds.Context None 0 → LeftLock v f level w

-- ---- the entry
abbrev pub SawEntry : PortValue → PortValue → ℕ → ℕ → ℕ → Type 0
SawEntry v w f i x = Moves v w (Cell f i) Load kinds.Look None x

-- It is stored, whatever it is; or, where its accessed and dirty bits are kept, exchanged for the word that was seen. The answer is the old one.
pub data PutEntry (v w : PortValue) (f i seen new : ℕ) : Bool → Result ℕ Stop → Type 0 where
  stored : (old : ℕ) → Moves v w (Cell f i) (Store new) kinds.Cell None old → PutEntry v w f i seen new false (Ok old)
  exchanged : Moves v w (Cell f i) (Cas seen new) kinds.Cell None seen → PutEntry v w f i seen new true (Ok seen)
  lost : (found : ℕ) → found ≢ seen → Moves v w (Cell f i) (Cas seen new) kinds.Cell None found →
      PutEntry v w f i seen new true (Err (Paused (Lost (number (sizes_of v.post.machine) (Cell f i)) seen found)))

-- ---- what the new word asks
-- it is taken of that owner, for an entry of a table of that level
pub data TookDemand (owner level : ℕ) (v : PortValue) : Demand → PortValue → List Bool → Result (Unit {0}) Stop → Type 0 where
  nothing : TookDemand owner level v demands.Nothing v [] (Ok tt)
  referred : (w : PortValue) (g : ℕ) → GotRef v w g owner (Ok g) → TookDemand owner level v (demands.Read g) w [] (Ok tt)
  unreferred : (w : PortValue) (g : ℕ) (stop : Stop) → GotRef v w g owner (Err stop) → TookDemand owner level v (demands.Read g) w [] (Err stop)
  paged : (w : PortValue) (g : ℕ) → level ≡ 1 → GotPage v g owner w (Ok g) → TookDemand owner level v (demands.Typed g Writable) w [] (Ok tt)
  unpaged : (w : PortValue) (g : ℕ) (stop : Stop) → level ≡ 1 → GotPage v g owner w (Err stop) → TookDemand owner level v (demands.Typed g Writable) w [] (Err stop)
  acquired : (w : PortValue) (g : ℕ) (answers : List Bool) → 2 ≤ level → Acquired v g owner (level - 1) w answers (Ok g) → TookDemand owner level v (demands.Typed g (level_type (level - 1))) w answers (Ok tt)
  refused : (w : PortValue) (g : ℕ) (answers : List Bool) (stop : Stop) → 2 ≤ level → Acquired v g owner (level - 1) w answers (Err stop) →
      TookDemand owner level v (demands.Typed g (level_type (level - 1))) w answers (Err stop)

-- it is given back whole: a table whose last type count it was is left partial with all its entries recorded, under its own mark
pub data GaveDemand (owner level : ℕ) (v : PortValue) : Demand → PortValue → Type 0 where
  nothing : GaveDemand owner level v demands.Nothing v
  referred : (w : PortValue) (g : ℕ) → GaveRef v w g → GaveDemand owner level v (demands.Read g) w
  paged : (w : PortValue) (g : ℕ) → level ≡ 1 → GaveType v w g Writable → GaveDemand owner level v (demands.Typed g Writable) w
  shared : (u w : PortValue) (g : ℕ) → 2 ≤ level → DropsType v u g false → GaveRef u w g → GaveDemand owner level v (demands.Typed g (level_type (level - 1))) w
  last : (u w : PortValue) (g : ℕ) → 2 ≤ level → DropsType v u g true → KeptFor u w g (partial_kind (level_type (level - 1)) true false 512 0) owner →
      GaveDemand owner level v (demands.Typed g (level_type (level - 1))) w

-- ---- what the old word asked
-- it is released; a pause of that leaves the exchange done
pub data ReleasedDemand (v : PortValue) : Demand → PortValue → List Bool → Type 0 where
  nothing : ReleasedDemand v demands.Nothing v []
  bad : ReleasedDemand v demands.Bad v []
  referred : (w : PortValue) (g : ℕ) → GaveRef v w g → ReleasedDemand v (demands.Read g) w []
  released : (w : PortValue) (g : ℕ) (t : PageType) (answers : List Bool) (answer : Result (Unit {0}) Stop) → WasReleased v g t w answers answer → IfErr answer (λ stop. stop ≡ Paused Due) →
      ReleasedDemand v (demands.Typed g t) w answers

-- ---- the whole
-- the demand of the new word, where that is the word seen there
abbrev pub new_demand : EntryUpdate → ℕ → Demand
new_demand x seen = demand_at (level_type x.level) x.index (word_kept x.keep seen x.word)

abbrev pub old_demand : EntryUpdate → ℕ → Demand
old_demand x old = demand_at (level_type x.level) x.index old

abbrev pub PutsNew : PortValue → PortValue → EntryUpdate → ℕ → Result ℕ Stop → Type 0
PutsNew v w x seen answer = PutEntry v w x.table x.index seen (word_kept x.keep seen x.word) x.keep answer

abbrev pub TookNew : PortValue → PortValue → EntryUpdate → Owners → ℕ → List Bool → Result (Unit {0}) Stop → Type 0
TookNew v w x o seen answers answer = TookDemand (owner_at x.level o.tables o.frames) x.level v (new_demand x seen) w answers answer

-- From v, with the table under the own lock: the entry is looked at, and asks what it may not; or asks the same as the new word, which takes
-- its place; or what the new word asks is taken, the word put there, the lock taken off, and what the old one asked released. What is not to be
-- had, or not put there, leaves the entry as it is.
pub data Exchanged (v : PortValue) (x : EntryUpdate) (o : Owners) : PortValue → List Bool → Result (Unit {0}) Stop → Type 0 where
  bad : (u w : PortValue) (seen : ℕ) → SawEntry v u x.table x.index seen → new_demand x seen ≡ demands.Bad → LeftLock u x.table x.level w →
      Exchanged v x o w [] (Err (Refused (Reserved x.table x.index (word_kept x.keep seen x.word))))
  same : (u y w : PortValue) (seen old : ℕ) → SawEntry v u x.table x.index seen → same_demand (new_demand x seen) (old_demand x seen) ≡ true → PutsNew u y x seen (Ok old) → LeftLock y x.table x.level w →
      Exchanged v x o w [] (Ok tt)
  unput : (u y w : PortValue) (seen : ℕ) (stop : Stop) → SawEntry v u x.table x.index seen → same_demand (new_demand x seen) (old_demand x seen) ≡ true → PutsNew u y x seen (Err stop) →
      LeftLock y x.table x.level w → Exchanged v x o w [] (Err stop)
  untaken : (u y w : PortValue) (seen : ℕ) (answers : List Bool) (stop : Stop) → SawEntry v u x.table x.index seen → same_demand (new_demand x seen) (old_demand x seen) ≡ false →
      TookNew u y x o seen answers (Err stop) → LeftLock y x.table x.level w → Exchanged v x o w answers (Err stop)
  lost : (u y z a w : PortValue) (seen : ℕ) (answers : List Bool) (stop : Stop) → SawEntry v u x.table x.index seen → same_demand (new_demand x seen) (old_demand x seen) ≡ false →
      TookNew u y x o seen answers (Ok tt) → PutsNew y z x seen (Err stop) → GaveDemand (owner_at x.level o.tables o.frames) x.level z (new_demand x seen) a → LeftLock a x.table x.level w →
      Exchanged v x o w answers (Err stop)
  done : (u y z a w : PortValue) (seen old : ℕ) (answers more : List Bool) → SawEntry v u x.table x.index seen → same_demand (new_demand x seen) (old_demand x seen) ≡ false →
      TookNew u y x o seen answers (Ok tt) → PutsNew y z x seen (Ok old) → LeftLock z x.table x.level a → ReleasedDemand a (old_demand x old) w more →
      Exchanged v x o w (more ++ answers) (Ok tt)

abbrev pub ExchangesBy : PortValue → PortValue → EntryUpdate → Owners → Gate → Gate → Result (Unit {0}) Stop → Type 0
ExchangesBy v w x o g h answer = GatedPast g h (is_due_answer answer) (λ answers. Exchanged v x o w answers answer)
