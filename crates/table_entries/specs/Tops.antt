-- The newest of the own works, and what an entry of it leaves in hand.
use Rattle.std.specs.Prelude.{◌≡◌, ℕ, ◌+◌, ◌≤◌, Bool, true, false, List, ◌∷◌, length, Option, Some, None, IsTrue}
use Rattle.xp_words.specs.Entries.{below, demand_at}
use Rattle.xp_words.specs.KindWords.{kind_fields}
use Rattle.xp_words.specs.Machine.{Machine}
use Rattle.xp_words.specs.PageTypes.{is_table}
use Rattle.xp_words.specs.Places.{sizes_of}
use Rattle.xp_words.specs.declared.entry.Demand.TheVariants.{Typed}
use Rattle.xp_words.specs.declared.kind.PageType.{PageType}
use Rattle.xp_board.specs.declared.holdings.Holdings.{Holdings}
use Rattle.xp_board.specs.declared.holdings.Unsettled.{Unsettled}
use Rattle.xp_board.specs.declared.holdings.Work.{Work}
use Rattle.xp_board.specs.After.{learned_cell}
use Rattle.xp_board.specs.Hands.{changed_work, typed_to, work_on}
use Rattle.xp_board.specs.Readings.{is_work}
use Rattle.xp_board.specs.Settling.{is_settled}
use Rattle.xp_board.specs.Told.{PortValue}
use Rattle.step_maker.specs.Holds.{FlushedHolds}
use Rattle.frame_words.specs.Refs.{took}
use Rattle.frame_types.specs.Taking.{typed_as, working}
use Rattle.table_entries.specs.declared.entries.Entered.{Entered}
use Rattle.table_entries.specs.declared.entries.Entered.TheVariants as entered
use Rattle.table_entries.specs.declared.resuming.Resumed.{Resumed}
use Rattle.table_entries.specs.declared.resuming.Resumed.TheVariants as again

-- ---- before
-- the newest of the own works is frame f, a table of that type past its flush, with so many entries recorded
pub record WorksAtTop (f : ℕ) (t : PageType) (n : ℕ) (h : Holdings) : Type 0 where
  pub top : Work
  pub others : List Work
  pub works : h.works ≡ top ∷ others
  pub frame : top.frame ≡ f
  pub in_work : IsTrue (is_work (kind_fields top.word))
  pub kind : (kind_fields top.word).kind ≡ t
  pub table : IsTrue (is_table t)
  pub unmarked : (kind_fields top.word).unflushed ≡ false
  pub recorded : top.recorded ≡ n

-- and its next entry may be recorded: the last one is settled
pub record WorksNext (m : Machine) (f : ℕ) (t : PageType) (n : ℕ) (h : Holdings) : Type 0 where
  pub on : WorksAtTop f t n h
  pub settled : IsTrue (is_settled (sizes_of m) h on.top)

-- each typed reference in hand is one to a frame in the own works
abbrev pub HoldsWorks : Holdings → Type 0
HoldsWorks h = (g : ℕ) → work_on g h.works ≡ None → typed_to g h.typed ≡ 0

-- ---- after
-- so many entries of frame f are recorded, the last of them settled or not
abbrev pub with_recorded : ℕ → ℕ → Option Unsettled → Holdings → Holdings
with_recorded f n u h = record h { works = changed_work f (λ e. record e { recorded = n; unsettled = u }) h.works }

-- the frame that an entry asks came into the own works, for the type below: with so many entries recorded, and past its flush
-- or marked with a stamp. `own`: its type count is in hand; else an untyped reference is.
pub record Opens (v w : PortValue) (f i : ℕ) (t : PageType) (g owner progress : ℕ) (own marked : Bool) : Type 0 where
  pub word : ℕ
  pub asks : demand_at t i word ≡ Typed g (below t)
  pub work : Work
  pub since : ℕ
  pub frame : work.frame ≡ g
  pub in_work : IsTrue (is_work (kind_fields work.word))
  pub kind : (kind_fields work.word).kind ≡ below t
  pub flushed : (kind_fields work.word).unflushed ≡ marked
  pub recorded : work.recorded ≡ progress
  pub settled : progress ≡ 0 → work.unsettled ≡ None
  pub earlier : work.since ≤ length w.holdings.steps
  pub taken : since ≤ length w.holdings.steps
  pub aside : typed_to g v.holdings.typed ≡ 0
  pub hand : FlushedHolds v w (working g owner (below t) own work since (took g owner (learned_cell f i word v.holdings)))

-- the entry was looked at, and else the hand is that one
abbrev pub LookedAnd : PortValue → PortValue → ℕ → ℕ → (ℕ → Holdings → Holdings) → Type 0
LookedAnd v w f i after = (word : ℕ) × FlushedHolds v w (after word (learned_cell f i word v.holdings))

abbrev pub as_it_was : ℕ → Holdings → Holdings
as_it_was word h = h

-- recorded, and settled; or the table came to name another one, which is to be worked on first; or recorded, and maybe not settled
abbrev pub LeavesEntered : PortValue → PortValue → ℕ → PageType → ℕ → ℕ → Entered → Type 0
LeavesEntered v w f t i owner entered.Recorded = LookedAnd v w f i (λ word h. with_recorded f (i + 1) None h)
LeavesEntered v w f t i owner (entered.Opened g progress own) = Opens v w f i t g owner progress own false
LeavesEntered v w f t i owner (entered.Unsettled stop) = (u : Option Unsettled) × LookedAnd v w f i (λ word h. with_recorded f (i + 1) u h)

-- ---- the last recorded entry, looked at again
-- the last recorded entry of frame f is settled now
abbrev pub IsSettledNow : PortValue → ℕ → Type 0
IsSettledNow w f = (e : Work) → work_on f w.holdings.works ≡ Some e → IsTrue (is_settled (sizes_of w.post.machine) w.holdings e)

-- a typed reference to the frame that it asks is in hand, one more than the entry has
pub record TakesAgain (v w : PortValue) (f i : ℕ) (t : PageType) (g owner : ℕ) : Type 0 where
  pub word : ℕ
  pub asks : demand_at t i word ≡ Typed g (below t)
  pub hand : FlushedHolds v w (typed_as g owner (below t) (took g owner (learned_cell f i word v.holdings)))

abbrev pub LeavesResumed : PortValue → PortValue → ℕ → PageType → ℕ → ℕ → Resumed → Type 0
LeavesResumed v w f t i owner again.Settled = LookedAnd v w f i as_it_was × IsSettledNow w f
LeavesResumed v w f t i owner (again.Taken g) = TakesAgain v w f i t g owner × IsSettledNow w f
LeavesResumed v w f t i owner (again.Opened g progress) = Opens v w f i t g owner progress false false
LeavesResumed v w f t i owner (again.Waiting g stamp stop) = (o : Opens v w f i t g owner 0 false true) × ((kind_fields o.work.word).number ≡ stamp)
