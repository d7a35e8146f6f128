-- Entries of a table in the own work that are recorded or shed: when, and what is in hand after.
use Rattle.std.specs.Prelude.{ℕ, List, Some}
use Rattle.xp_words.specs.Machine.{Machine}
use Rattle.xp_words.specs.declared.place.Place.{Place}
use Rattle.xp_words.specs.declared.place.Place.TheVariants.{Clock}
use Rattle.xp_board.specs.declared.step.Act.TheVariants.{Load}
use Rattle.xp_board.specs.declared.step.Mark.TheVariants.{Record, Shed}
use Rattle.xp_board.specs.declared.step.StepKind.TheVariants as steps
use Rattle.xp_board.specs.declared.holdings.Holdings.{Holdings}
use Rattle.xp_board.specs.declared.holdings.Work.{Work}
use Rattle.xp_board.specs.Hands.{work_on}
use Rattle.xp_board.specs.Marks.{MayRecord, MayShed, recorded, shed}
use Rattle.step_maker.specs.Visits.{Visit, Only}

-- the next entry of table f, the one that was loaded last, may be recorded
pub record RecordsNext (m : Machine) (f upto : ℕ) (h : Holdings) : Type 0 where
  pub work : Work
  pub may : MayRecord m f upto h work

-- the last recorded entry of table f, the one that was loaded last, may be shed
pub record ShedsLast (f upto : ℕ) (h : Holdings) : Type 0 where
  pub work : Work
  pub may : MayShed f upto h work

-- what the next entry asks went out of the hand, and one more is recorded; whether it is settled is seen then
abbrev pub entry_recorded : Machine → ℕ → Holdings → Holdings
entry_recorded m f h = recorded m f (work_on f h.works) h

-- what the last recorded entry asks came into the hand, and so many are left
abbrev pub entry_shed : Machine → ℕ → ℕ → Holdings → Holdings
entry_shed m f upto h = shed m f upto (work_on f h.works) h

-- ---- the steps
-- the clock is loaded, and the entries below that one are recorded by it
abbrev pub records_at : ℕ → ℕ → ℕ → Visit
records_at f upto clock = record { place = Clock; act = Load; kind = steps.Look; mark = Some (Record f upto); found = clock }

abbrev pub Records : ℕ → ℕ → List Visit → Type 0
Records f upto vs = (clock : ℕ) × Only (records_at f upto clock) vs

-- a word is loaded, and the last entry shed by it
abbrev pub sheds_at : Place → ℕ → ℕ → ℕ → Visit
sheds_at p f upto found = record { place = p; act = Load; kind = steps.Look; mark = Some (Shed f upto); found = found }

abbrev pub ShedsAt : Place → ℕ → ℕ → List Visit → Type 0
ShedsAt p f upto vs = (found : ℕ) × Only (sheds_at p f upto found) vs
