-- What is kept of a write of an entry of a live table, where the gate paused the acquisition of the table that the new word asks.
use Rattle.std.specs.Prelude.{◌≡◌, ◌<◌, ◌≤◌, ◌-◌, ℕ, true, false, Bool, Some}
use Rattle.xp_words.specs.Entries.{demand_at, is_slot}
use Rattle.xp_words.specs.Machine.{Machine}
use Rattle.xp_words.specs.declared.entry.Demand.TheVariants.{Typed}
use Rattle.xp_words.specs.declared.place.Place.TheVariants.{Refs}
use Rattle.xp_board.specs.Readings.{kind_at}
use Rattle.xp_board.specs.Told.{PortValue, told_word}
use Rattle.step_maker.specs.Plain.{Words}
use Rattle.step_maker.specs.Twins.{Alike}
use Rattle.entry_exchange.specs.Words.{same_demand, word_kept}
use Rattle.entry_locks.specs.Locks.{is_lockable}
use Rattle.entry_locks.specs.Plain.{with_lock}
use Rattle.foreign_map.specs.declared.owners.Owners.{Owners}
use Rattle.frame_words.specs.Plain.{got}
use Rattle.mmu_update.specs.declared.element.Element.{Element}
use Rattle.mmu_update.specs.declared.element.Element.TheVariants.{Write}
use Rattle.partial_state.specs.Levels.{level_type}
use Rattle.table_words.specs.OldWords.{old_place}
use Rattle.table_words.specs.declared.old_words.OldWord.TheVariants.{First}
use Rattle.table_law.specs.Alone.{fine, take_reference}
use Rattle.table_law.specs.Lawful.{IsAtRest}
use Rattle.table_law.specs.Plain.{Describes, Plain, Share, share_of}
use Rattle.course_laws.specs.Courses.{IsOrderly}
use Rattle.refusal_laws.specs.Repeated.{PausedCalls}
use Rattle.script_law.specs.Frames.{under_lock}
use Rattle.script_law.specs.Values.{Solo}
use Rattle.solo_ports.specs.Standing.{Stands}

-- In the words m, frame f is a live table of that level and owner that nobody has locked. With one reference more, and locked, they would be the words l, but for stamps, the clock and
-- the words of flushes.
pub record IsUnlockedTable (n : Machine) (f owner level : ℕ) (m l : Words) : Type 0 where
  pub inside : f < n.frames
  pub share : Share
  pub held : share_of (m (Refs f)) ≡ Some share
  pub owns : share.owner ≡ owner
  pub lockable : is_lockable (kind_at m f) ≡ true
  pub typed : (kind_at m f).kind ≡ level_type level
  pub with_lock_on : Alike (with_lock f (got f m)) l

-- On that machine, by that vCPU, entry i of frame f, a live table, was to be written from words whose frames were those of x; and under the lock of the table the new word asked another
-- frame as a table of the level below, for the same owner.
pub record HasBegun (n : Machine) (s : ℕ) (o : Owners) (f i word : ℕ) (keep : Bool) (x : Solo) : Type 0 where
  -- the table
  pub level : ℕ
  pub two : 2 ≤ level
  pub high : level ≤ 4
  pub open_slot : is_slot (level_type level) i ≡ false
  pub lockable : is_lockable (x.frames.kinds f) ≡ true
  pub typed : (x.frames.kinds f).kind ≡ level_type level
  pub taken : Plain
  pub takes : take_reference n o.tables f x.frames ≡ fine taken
  -- what the new word asks, and the old one does not
  pub asked : ℕ
  pub asks : demand_at (level_type level) i (word_kept keep (x.frames.cells f i) word) ≡ Typed asked (level_type (level - 1))
  pub differ : same_demand (demand_at (level_type level) i (word_kept keep (x.frames.cells f i) word)) (demand_at (level_type level) i (x.frames.cells f i)) ≡ false
  -- where it was first asked, with the lock on
  pub from : PortValue
  pub machine : from.post.machine ≡ n
  pub vcpu : from.post.vcpu ≡ s
  pub rest : IsAtRest from.post.machine (told_word from)
  pub orderly : IsOrderly from.post.machine (told_word from)
  pub clear : told_word from (old_place from.post.vcpu First) ≡ 0
  pub frames : Describes from.post.machine (told_word from) (under_lock f taken)

-- So it has begun, and each call of the acquisition was paused by the gate. The lock is off, and nothing else is unfinished. `locked`: a port that tells the words of now, but for the lock,
-- which is on; there the next call would go on.
pub record KeepsEntry (o : Owners) (f i word : ℕ) (keep : Bool) (v : PortValue) (x : Solo) : Type 0 where
  pub stands : Stands v x
  pub first : told_word v (old_place v.post.vcpu First) ≡ 0
  pub begun : HasBegun v.post.machine v.post.vcpu o f i word keep x
  pub locked : PortValue
  pub calls : PausedCalls begun.asked o.tables (begun.level - 1) begun.from locked
  pub unlocked : IsUnlockedTable v.post.machine f o.tables begun.level (told_word v) (told_word locked)

-- of a pair's element
abbrev pub KeepsWrite : Owners → Element → PortValue → Solo → Type 0
KeepsWrite o (Write f i word keep) v x = KeepsEntry o f i word keep v x
KeepsWrite o _ v x = ⊥
