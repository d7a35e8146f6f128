-- How an acquisition leaves frames: a `kept` mark, or no type, only where something names the frame.
use Rattle.std.specs.Prelude.{◌≡◌, ◌⊎◌, ℕ, ◌<◌, Bool, true, List, Some, IsTrue}
use Rattle.xp_words.specs.KindWords.{kind_fields}
use Rattle.xp_words.specs.PageTypes.{is_table}
use Rattle.xp_words.specs.declared.entry.Demand.TheVariants.{Typed}
use Rattle.xp_words.specs.declared.kind.PageType.{PageType}
use Rattle.xp_words.specs.declared.place.Place.TheVariants.{Kind}
use Rattle.xp_board.specs.declared.holdings.Holdings.{Holdings}
use Rattle.xp_board.specs.declared.holdings.Seen.{Seen}
use Rattle.xp_board.specs.declared.holdings.Work.{Work}
use Rattle.xp_board.specs.declared.step.Act.TheVariants.{Store}
use Rattle.xp_board.specs.Hands.{work_on}
use Rattle.xp_board.specs.Lists.{EachOf}
use Rattle.xp_board.specs.Readings.{is_dead}
use Rattle.xp_board.specs.Told.{PortValue}
use Rattle.step_maker.specs.Moves.{Moment, Ran}
use Rattle.step_maker.specs.Asked.{demand_held}

-- a recorded entry asks a type of frame g, of a table in the own works, as it was found
pub record IsRecorded (h : Holdings) (g : ℕ) : Type 0 where
  pub table : ℕ
  pub work : Work
  pub seen : Seen
  pub here : work_on table h.works ≡ Some work
  pub saw : work.seen ≡ Some seen
  pub recorded : seen.index < work.recorded
  pub kind : PageType
  pub asks : demand_held table seen.index seen.word h ≡ Some (Typed g kind)

-- One step. `kept`: frame f may have its `kept` mark.
pub record LeavesWell (kept : Bool) (f : ℕ) (m : Moment) : Type 0 where
  pub marked : (g w : ℕ) → m.place ≡ Kind g → m.act ≡ Store w → (kind_fields w).kept ≡ true → IsRecorded m.hand g ⊎ ((kept ≡ true) × (g ≡ f))
  pub dead : (g w : ℕ) → m.place ≡ Kind g → m.act ≡ Store w → IsTrue (is_dead (kind_fields w)) → IsTrue (is_table (kind_fields w).kind) → IsRecorded m.hand g

-- each step from v to w
unfoldable pub LeftWell : PortValue → PortValue → Bool → ℕ → Type 0
LeftWell v w kept f = (ms : List Moment) × Ran v ms w × EachOf (λ m. LeavesWell kept f m) ms
