-- The plain acquisition: tables depth first by entry, each reference added to the counts at once. It knows no pause, no
-- progress and no stack.
use Rattle.std.specs.Prelude.{ℕ, zero, suc, ◌-◌, ◌==◌, ◌&&◌, not, nat_lt, nat_le, if◌then◌else◌, Bool, false, Option, Some, None}
use Rattle.xp_words.specs.declared.kind.KindWord.{KindWord}
use Rattle.xp_words.specs.declared.kind.PageType.{PageType}
use Rattle.xp_words.specs.declared.kind.PageType.TheVariants as kinds
use Rattle.xp_words.specs.declared.entry.Demand.{Demand}
use Rattle.xp_words.specs.declared.entry.Demand.TheVariants.{Nothing, Bad, Read, Typed}
use Rattle.xp_words.specs.Machine.{Machine}
use Rattle.xp_board.specs.KindSteps.{raised_kind}
use Rattle.xp_board.specs.Readings.{is_dead, is_type}
use Rattle.kind_words.specs.Kinds.{live_kind, work_kind}
use Rattle.partial_state.specs.Levels.{level_type}
use Rattle.table_law.specs.Levels.{entry_of, closed}
use Rattle.table_law.specs.Release.{let_go, drop_first}
use Rattle.table_law.specs.Plain.{Plain, Share, with_share, with_kind, raised_share, reference_back}

-- why it ends otherwise; a word that a refusal carries stands here without its stamp
pub data Cause : Type 0 where
  NoFrame : (f : ℕ) → Cause
  WrongOwner : (f : ℕ) (found : Option Share) → Cause
  CountFull : (f : ℕ) (found : Share) → Cause
  OtherType : (f : ℕ) (want : PageType) (found : KindWord) → Cause
  Reserved : (f i entry : ℕ) → Cause

-- the answer, and the frames as it leaves them; where it is refused everything that it took is given back, and the types stay
pub record PlainOutcome : Type 0 where
  pub refusal : Option Cause
  pub left : Plain

abbrev pub fine : Plain → PlainOutcome
fine p = record { refusal = None; left = p }

abbrev pub refused : Cause → Plain → PlainOutcome
refused c p = record { refusal = Some c; left = p }

abbrev pub go_on : Option Cause → Plain → (Plain → PlainOutcome) → PlainOutcome
go_on None p next = next p
go_on (Some c) p next = refused c p

-- the second behind the first
abbrev pub then_by : PlainOutcome → (Plain → PlainOutcome) → PlainOutcome
then_by o next = go_on o.refusal o.left next

-- the same; where the first is refused, this is done
abbrev pub back_or : Option Cause → Plain → (Plain → Plain) → (Plain → PlainOutcome) → PlainOutcome
back_or None p back next = next p
back_or (Some c) p back next = refused c (back p)

abbrev pub then_or : PlainOutcome → (Plain → Plain) → (Plain → PlainOutcome) → PlainOutcome
then_or o back next = back_or o.refusal o.left back next

-- ---- one reference
abbrev pub take_reference_of : Machine → ℕ → ℕ → Plain → Option Share → PlainOutcome
take_reference_of n owner g p None = refused (WrongOwner g None) p
take_reference_of n owner g p (Some s) =
    if not (s.owner == owner) then refused (WrongOwner g (Some s)) p
    else if nat_le n.limit s.count then refused (CountFull g s) p
    else fine (with_share g (raised_share s) p)

abbrev pub take_reference : Machine → ℕ → ℕ → Plain → PlainOutcome
take_reference n owner g p = if nat_lt g n.frames then take_reference_of n owner g p (p.shares g) else refused (NoFrame g) p

-- ---- one type
-- live with type counts; one without is closing, and its holder alone may change it
abbrev pub is_counted : KindWord → Bool
is_counted k = k.validated && nat_lt 0 k.number

-- A counted frame of that type is counted once more; a dead one is filled and made live. Of any other the reference is given
-- back.
abbrev pub take_kind : (Plain → PlainOutcome) → ℕ → PageType → Plain → KindWord → PlainOutcome
take_kind fill g t p k =
    if is_dead k then then_or (fill (with_kind g (work_kind t false 0) p)) (closed g t) (λ q. fine (with_kind g (live_kind t 1) q))
    else if is_counted k && is_type k.kind t then fine (with_kind g (raised_kind k) p)
    else refused (OtherType g t k) (reference_back g p)

-- ---- entries
-- what one asks is taken; `below` takes the type of the level below
abbrev pub meet : Machine → ℕ → (ℕ → Plain → PlainOutcome) → ℕ → ℕ → Plain → Demand → PlainOutcome
meet n owner below f i p Nothing = fine p
meet n owner below f i p Bad = refused (Reserved f i (p.cells f i)) p
meet n owner below f i p (Read g) = take_reference n owner g p
meet n owner below f i p (Typed g t) = then_by (take_reference n owner g p) (below g)

-- The last k of the 512 entries of frame f, a table of that type. Where one is refused, those before it are given back.
unfoldable pub meet_last : Machine → ℕ → (ℕ → Plain → PlainOutcome) → (ℕ → Plain → Plain) → PageType → ℕ → ℕ → Plain → PlainOutcome
meet_last n owner below drop t f zero p = fine p
meet_last n owner below drop t f (suc k) p =
    then_or (meet n owner below f (512 - suc k) p (entry_of p t f (512 - suc k))) (drop_first drop t f (512 - suc k)) (meet_last n owner below drop t f k)

-- ---- a frame by level
-- the type of a frame to which a reference was taken
unfoldable pub take_at : ℕ → Machine → ℕ → ℕ → Plain → PlainOutcome
take_at zero n owner g p = take_kind fine g kinds.Writable p (p.kinds g)
take_at (suc l) n owner g p = take_kind (meet_last n owner (take_at l n owner) (let_go l) (level_type (suc l)) g 512) g (level_type (suc l)) p (p.kinds g)

-- the whole acquisition of frame f with the type of level l
abbrev pub alone : Machine → ℕ → ℕ → ℕ → Plain → PlainOutcome
alone n owner l f p = then_by (take_reference n owner f p) (take_at l n owner f)
