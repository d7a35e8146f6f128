-- The newest of the own works, of which the last recorded entry is given back, and what that leaves in hand.
use Rattle.std.specs.Prelude.{◌≡◌, ℕ, ◌<◌, ◌≤◌, Bool, true, false, List, ◌∷◌, length, Some, None, Result, Ok, Err, IsTrue}
use Rattle.xp_words.specs.Entries.{below, demand_at}
use Rattle.xp_words.specs.KindWords.{kind_fields}
use Rattle.xp_words.specs.PageTypes.{is_table}
use Rattle.xp_words.specs.Places.{sizes_of}
use Rattle.xp_words.specs.declared.entry.Demand.TheVariants.{Typed}
use Rattle.xp_words.specs.declared.kind.PageType.{PageType}
use Rattle.xp_words.specs.declared.reply.Pause.TheVariants.{Busy, Lost}
use Rattle.xp_words.specs.declared.reply.Stop.{Stop}
use Rattle.xp_words.specs.declared.reply.Stop.TheVariants.{Paused}
use Rattle.xp_board.specs.declared.holdings.Holdings.{Holdings}
use Rattle.xp_board.specs.declared.holdings.Liveness.{Liveness}
use Rattle.xp_board.specs.declared.holdings.Liveness.TheVariants.{Found, Since}
use Rattle.xp_board.specs.declared.holdings.Reference.{Reference}
use Rattle.xp_board.specs.declared.holdings.TypedReference.{TypedReference}
use Rattle.xp_board.specs.declared.holdings.Work.{Work}
use Rattle.xp_board.specs.After.{learned_cell}
use Rattle.xp_board.specs.Knowledge.{knows_owner}
use Rattle.xp_board.specs.Readings.{is_closing, is_work}
use Rattle.xp_board.specs.Told.{PortValue}
use Rattle.step_maker.specs.Holds.{Holds}
use Rattle.step_maker.specs.Moves.{Met}
use Rattle.step_maker.specs.Pauses.{Progress}
use Rattle.table_entries.specs.Asking.{AsksBelow}
use Rattle.table_entries.specs.Tops.{with_recorded}
use Rattle.table_releases.specs.declared.entries.Released.{Released}
use Rattle.table_releases.specs.declared.entries.Released.TheVariants.{Given, Opened}

-- the newest of the own works, in work or closing, is frame f, a table of that type without a mark, with so many entries recorded
pub record ReleasesTop (f : ℕ) (t : PageType) (n : ℕ) (h : Holdings) : Type 0 where
  pub top : Work
  pub others : List Work
  pub works : h.works ≡ top ∷ others
  pub frame : top.frame ≡ f
  pub kind : (kind_fields top.word).kind ≡ t
  pub table : IsTrue (is_table t)
  pub unmarked : (kind_fields top.word).unflushed ≡ false
  pub recorded : top.recorded ≡ n

-- why the entry is not given back
abbrev pub IsReleaseStop : Stop → Type 0
IsReleaseStop (Paused (Lost place expected found)) = Unit {0}
IsReleaseStop (Paused (Busy f found)) = Unit {0}
IsReleaseStop _ = ⊥

-- of the newest of the own works no entry is noted as unsettled: all that its recorded entries ask is live
abbrev pub IsSettledTop : Holdings → Type 0
IsSettledTop h = (top : Work) (others : List Work) → h.works ≡ top ∷ others → top.unsettled ≡ None

-- the entry is shed; and a table that is to be released first was live until its last type count was given back
abbrev pub IsShedLive : Result Released Stop → Type 0
IsShedLive (Ok Given) = Unit {0}
IsShedLive (Ok (Opened g recorded closing)) = closing ≡ true
IsShedLive (Err e) = ⊥

-- ---- after
-- the hand once the entry was looked at and shed
abbrev pub shed_once : ℕ → ℕ → ℕ → Holdings → Holdings
shed_once f i word h = with_recorded f i None (learned_cell f i word h)

-- a frame of the own works came in front of them, with an untyped reference where it is closing, else with a typed one
pub record Holding (g : ℕ) (t : PageType) (closing : Bool) (work : Work) (h : Holdings) (after : Holdings) : Type 0 where
  pub untyped : closing ≡ true → (r : Reference) × (r.frame ≡ g) × (after ≡ record h { refs = r ∷ h.refs; works = work ∷ h.works })
  pub typed : closing ≡ false → (r : TypedReference) × (r.frame ≡ g) × (r.kind ≡ Some t) × (after ≡ record h { typed = r ∷ h.typed; works = work ∷ h.works })

-- whether its frame is live is found by steps alone, from a number up to n on
abbrev pub IsSince : ℕ → Liveness → Type 0
IsSince n (Since k) = k ≤ n
IsSince n Found = ⊥

-- The frame that the shed entry asked came into the own works: a table of the level below without a mark, of which so many
-- entries are recorded, at least one. It is closing, and the last of them is settled; or in work, and what brought its typed reference
-- does not say that it is live.
pub record Reopens (v w : PortValue) (f i : ℕ) (t : PageType) (g recorded : ℕ) (closing : Bool) : Type 0 where
  pub word : ℕ
  pub asks : demand_at t i word ≡ Typed g (below t)
  pub inside : g < v.post.machine.frames
  pub work : Work
  pub frame : work.frame ≡ g
  pub kind : (kind_fields work.word).kind ≡ below t
  pub table : IsTrue (is_table (below t))
  pub closing_is : is_closing (kind_fields work.word) ≡ closing
  pub in_work : closing ≡ false → IsTrue (is_work (kind_fields work.word))
  pub unmarked : (kind_fields work.word).unflushed ≡ false
  pub recorded_is : work.recorded ≡ recorded
  pub some : 0 < recorded
  pub few : recorded ≤ 512
  pub settled : closing ≡ true → work.unsettled ≡ None
  pub earlier : work.since ≤ length w.holdings.steps
  pub since : closing ≡ false → (r : TypedReference) (others : List TypedReference) → w.holdings.typed ≡ r ∷ others → IsSince (length w.holdings.steps) r.live
  pub after : Holdings
  pub holding : Holding g (below t) closing work (shed_once f i word v.holdings) after
  pub hand : Holds v w after

-- shed, and what it asked given back; or its frame is to be released first
abbrev pub LeavesReleased : PortValue → PortValue → ℕ → PageType → ℕ → Released → Type 0
LeavesReleased v w f t i Given = (word : ℕ) × Holds v w (shed_once f i word v.holdings)
LeavesReleased v w f t i (Opened g recorded closing) = Reopens v w f i t g recorded closing

-- what the steps show: an entry is shed; and it asks the frame that came into the own works
abbrev pub ShowsReleased : PortValue → PortValue → ℕ → ℕ → PageType → Released → Type 0
ShowsReleased v w owner pages t Given = Progress (Met v w)
ShowsReleased v w owner pages t (Opened g recorded closing) = Progress (Met v w) × AsksBelow v w owner pages t g

-- only looked at
abbrev pub StaysRecorded : PortValue → PortValue → ℕ → ℕ → Type 0
StaysRecorded v w f i = (word : ℕ) × Holds v w (learned_cell f i word v.holdings)

-- who owns the table owns a table, too, that is to be released first
abbrev pub OwnsReleased : PortValue → PortValue → ℕ → Released → Type 0
OwnsReleased v w f Given = Unit {0}
OwnsReleased v w f (Opened g recorded closing) =
    (owner : ℕ) → IsTrue (knows_owner (sizes_of v.post.machine) f owner v.holdings) → IsTrue (knows_owner (sizes_of v.post.machine) g owner w.holdings)
