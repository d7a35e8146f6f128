-- Marks: what goes with a step beside its act.
use Rattle.std.specs.Prelude.{◌≡◌, ℕ, ◌+◌, ◌<◌, ◌==◌, not, if◌then◌else◌, Bool, false, length, Option, Some, None, IsTrue}
use Rattle.xp_words.specs.declared.entry.Demand.{Demand}
use Rattle.xp_words.specs.declared.entry.Demand.TheVariants as demands
use Rattle.xp_words.specs.Entries.{demand_at}
use Rattle.xp_words.specs.PageTypes.{is_table}
use Rattle.xp_words.specs.KindWords.{kind_fields}
use Rattle.xp_words.specs.Machine.{Machine}
use Rattle.xp_words.specs.Places.{Sizes, sizes_of}
use Rattle.xp_board.specs.declared.step.Mark.{Mark}
use Rattle.xp_board.specs.declared.step.Mark.TheVariants.{Record, Shed, Forget, Cut, Turn, Walk}
use Rattle.xp_board.specs.declared.step.StepKind.{StepKind}
use Rattle.xp_board.specs.declared.step.StepKind.TheVariants as steps
use Rattle.xp_board.specs.declared.holdings.Seen.{Seen}
use Rattle.xp_board.specs.declared.holdings.Unsettled.{Unsettled}
use Rattle.xp_board.specs.declared.holdings.Work.{Work}
use Rattle.xp_board.specs.declared.holdings.Holdings.{Holdings}
use Rattle.xp_board.specs.Lists.{kept_of}
use Rattle.xp_board.specs.Hands.{work_on, changed_work}
use Rattle.xp_board.specs.Knowledge.{knows_live}
use Rattle.xp_board.specs.Settling.{is_settled, HasLastDemand, demand_in, demand_out}

-- ---- legal
-- the next entry, the one that was loaded last, asks what is in hand
pub record MayRecord (m : Machine) (f upto : ℕ) (h : Holdings) (e : Work) : Type 0 where
  pub here : work_on f h.works ≡ Some e
  pub table : IsTrue (is_table (kind_fields e.word).kind)
  pub unmarked : (kind_fields e.word).unflushed ≡ false
  pub next : upto ≡ e.recorded + 1
  pub inside : e.recorded < 512
  pub settled : IsTrue (is_settled (sizes_of m) h e)
  pub word : ℕ
  pub seen : e.seen ≡ Some (record { index = e.recorded; word = word })
  pub in_hand : HasLastDemand m f (kind_fields e.word).kind h (demand_at (kind_fields e.word).kind e.recorded word)

-- the last recorded entry, the one that was loaded last, comes into the hand
pub record MayShed (f upto : ℕ) (h : Holdings) (e : Work) : Type 0 where
  pub here : work_on f h.works ≡ Some e
  pub table : IsTrue (is_table (kind_fields e.word).kind)
  pub last : e.recorded ≡ upto + 1
  pub word : ℕ
  pub seen : e.seen ≡ Some (record { index = upto; word = word })

-- a walk begins with its first load alone
abbrev pub IsFill : StepKind → Type 0
IsFill steps.Fill = Unit {0}
IsFill _ = ⊥

abbrev pub LegalMark : Machine → Holdings → StepKind → Option Mark → Type 0
LegalMark m h step None = Unit {0}
LegalMark m h step (Some (Record f upto)) = (e : Work) × MayRecord m f upto h e
LegalMark m h step (Some (Shed f upto)) = (e : Work) × MayShed f upto h e
LegalMark m h step (Some (Forget page)) = h.walk ≡ None
LegalMark m h step (Some (Cut call)) = Unit {0}
LegalMark m h step (Some Turn) = Unit {0}
LegalMark m h step (Some (Walk write)) = IsFill step

-- ---- after
abbrev pub seen_word : Option Seen → ℕ
seen_word (Some s) = s.word
seen_word None = 0

abbrev pub demand_seen : ℕ → Work → Demand
demand_seen i e = demand_at (kind_fields e.word).kind i (seen_word e.seen)

-- a typed demand of a frame that the vCPU doesn't know live
abbrev pub leaves_unsettled : Sizes → Holdings → Demand → Bool
leaves_unsettled z h (demands.Typed g t) = not (knows_live z g t h)
leaves_unsettled z h _ = false

abbrev pub unsettled_by : Sizes → Work → Holdings → Option Unsettled
unsettled_by z e h =
    if leaves_unsettled z h (demand_seen e.recorded e)
    then Some (record { since = length h.steps; word = Some (seen_word e.seen) })
    else None

abbrev pub recorded : Machine → ℕ → Option Work → Holdings → Holdings
recorded m f (Some e) h =
    demand_out (demand_seen e.recorded e)
    (record h { works = changed_work f (λ x. record x { recorded = e.recorded + 1; unsettled = unsettled_by (sizes_of m) e h }) h.works })
recorded m f None h = h

abbrev pub shed : Machine → ℕ → ℕ → Option Work → Holdings → Holdings
shed m f upto (Some e) h =
    demand_in (is_settled (sizes_of m) h e) (demand_seen upto e) (record h { works = changed_work f (λ x. record x { recorded = upto; unsettled = None }) h.works })
shed m f upto None h = h

abbrev pub after_mark : Machine → Option Mark → Holdings → Holdings
after_mark m None h = h
after_mark m (Some (Record f upto)) h = recorded m f (work_on f h.works) h
after_mark m (Some (Shed f upto)) h = shed m f upto (work_on f h.works) h
after_mark m (Some (Forget page)) h = record h { cache = kept_of (λ x. not (x.page == page)) h.cache }
after_mark m (Some (Cut call)) h = h
after_mark m (Some Turn) h = record h { turn = length h.steps }
after_mark m (Some (Walk write)) h = h
