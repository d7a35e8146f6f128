-- The plain exchange of an entry of a live table: what the new word asks is taken, the word is put there, and what the old one asked is given back.
use Rattle.std.specs.Prelude.{ℕ, ◌-◌, ◌==◌, ◌&&◌, if◌then◌else◌, Bool, true, false}
use Rattle.xp_words.specs.Entries.{demand_at}
use Rattle.xp_words.specs.Machine.{Machine}
use Rattle.xp_words.specs.declared.entry.Demand.{Demand}
use Rattle.xp_words.specs.declared.entry.Demand.TheVariants as demands
use Rattle.xp_words.specs.declared.kind.KindWord.{KindWord}
use Rattle.xp_board.specs.CellSteps.{is_same_demand}
use Rattle.kind_words.specs.Kinds.{partial_kind}
use Rattle.partial_state.specs.Levels.{level_type}
use Rattle.table_law.specs.Alone.{PlainOutcome, Reserved, fine, meet, refused, take_at, then_or}
use Rattle.table_law.specs.Levels.{entry_of}
use Rattle.table_law.specs.Plain.{Plain, reference_back, with_kind}
use Rattle.table_law.specs.Release.{drop_demand, let_go}

-- which entry of a table, and the level of that
pub record EntryPlace : Type 0 where
  pub table : ℕ
  pub level : ℕ
  pub index : ℕ

-- ---- one word of a frame
abbrev pub with_cell : ℕ → ℕ → ℕ → Plain → Plain
with_cell f i x p = record { shares = p.shares; kinds = p.kinds; cells = λ g j. if (g == f) && (j == i) then x else p.cells g j }

-- ---- the lock of a table of that level goes off with its type count
-- and with a reference; where that was the last type count, the table is partial with all its entries recorded, and the reference stays
abbrev pub unlocked_by : ℕ → ℕ → KindWord → Plain → Plain
unlocked_by level f k p = if k.number == 1 then with_kind f (partial_kind (level_type level) false false 512 0) p else reference_back f (with_kind f (record k { number = k.number - 1; locked = false }) p)

abbrev pub unlocked_plain : ℕ → ℕ → Plain → Plain
unlocked_plain level f p = unlocked_by level f (p.kinds f) p

-- ---- an entry of a table under its lock gets that word
-- behind what the new word asks: the word is put there, the lock goes off, and what the old word asked is given back
abbrev pub put_on : EntryPlace → ℕ → Demand → Plain → Plain
put_on e new old p = drop_demand (let_go (e.level - 1)) (unlocked_plain e.level e.table (with_cell e.table e.index new p)) old

-- the word alone, where both ask the same; else what the new one asks is taken first, and where that is not to be had the lock goes off
abbrev pub exchange_for : Machine → ℕ → EntryPlace → ℕ → Demand → Plain → Demand → Bool → PlainOutcome
exchange_for n owner e new old p d true = fine (unlocked_plain e.level e.table (with_cell e.table e.index new p))
exchange_for n owner e new old p d false = then_or (meet n owner (take_at (e.level - 1) n owner) e.table e.index p d) (unlocked_plain e.level e.table) (λ q. fine (put_on e new old q))

-- what it may not ask is refused with the new word
abbrev pub exchange_by : Machine → ℕ → EntryPlace → ℕ → Demand → Plain → Demand → PlainOutcome
exchange_by n owner e new old p demands.Bad = refused (Reserved e.table e.index new) (unlocked_plain e.level e.table p)
exchange_by n owner e new old p d = exchange_for n owner e new old p d (is_same_demand old d)

-- whose the frames are to be that the new word asks: `owner`
abbrev pub exchanged : Machine → ℕ → EntryPlace → ℕ → Plain → PlainOutcome
exchanged n owner e new p = exchange_by n owner e new (entry_of p (level_type e.level) e.table e.index) p (demand_at (level_type e.level) e.index new)
