-- Between the steps of a release: what the looks found, and what is to hold at the end.
use Rattle.std.specs.Prelude.{◌≡◌, ℕ, ◌+◌, ◌<◌, true, [], None, Some, IsTrue, Result, IfErr, IfOk, MatchResult}
use Rattle.xp_words.specs.Entries.{below, demand_at}
use Rattle.xp_words.specs.declared.entry.Demand.TheVariants.{Typed}
use Rattle.xp_words.specs.KindWords.{kind_read, kind_write}
use Rattle.xp_words.specs.declared.kind.KindWord.{KindWord}
use Rattle.xp_words.specs.declared.kind.PageType.{PageType}
use Rattle.xp_words.specs.declared.place.Place.TheVariants.{Cell, Kind}
use Rattle.xp_words.specs.declared.reply.Stop.{Stop}
use Rattle.xp_board.specs.declared.step.Act.TheVariants.{Cas, Load}
use Rattle.xp_board.specs.declared.step.StepKind.TheVariants as kinds
use Rattle.xp_board.specs.After.{learned_cell}
use Rattle.xp_board.specs.Readings.{is_live_word, is_partial}
use Rattle.xp_board.specs.KindSteps.{resumed_kind}
use Rattle.xp_board.specs.Told.{PortValue}
use Rattle.step_maker.specs.Holds.{Holds, Same}
use Rattle.step_maker.specs.Moves.{Moves}
use Rattle.step_maker.specs.Answers.{Serves, Stops, misses}
use Rattle.frame_types.specs.Taking.{IsOfOther}
use Rattle.kind_words.specs.Kinds.{resumed_work}
use Rattle.table_entries.specs.Asking.{LooksOnly, of_entries}
use Rattle.table_releases.specs.Found.{ReleasesFound}
use Rattle.table_releases.specs.Plain.{TwinRelease}
use Rattle.table_releases.specs.Tops.{IsReleaseStop, IsSettledTop, IsShedLive, LeavesReleased, OwnsReleased, ReleasesTop, ShowsReleased, StaysRecorded}
use Rattle.table_releases.specs.declared.entries.Released.{Released}

-- from b to v entry i of frame f was looked at, the last recorded one of the newest own work
pub record SeesLast (b v : PortValue) (f i : ℕ) (t : PageType) (word : ℕ) : Type 0 where
  pub look : Moves b v (Cell f i) Load kinds.Look None word
  pub hand : Holds b v (learned_cell f i word b.holdings)
  pub frame : f < b.post.machine.frames
  pub index : i < 512
  pub works : ReleasesTop f t (i + 1) b.holdings
  pub above : (g : ℕ) → IsOfOther g (below t) b.holdings
  pub looked : b.holdings.looking ≡ []

-- it asks a type of that frame
pub record SeesTyped (b v : PortValue) (f i : ℕ) (t : PageType) (word g : ℕ) (want : PageType) : Type 0 where
  pub sees : SeesLast b v f i t word
  pub asks : demand_at t i word ≡ Typed g want
  pub inside : g < b.post.machine.frames

-- of which then that kind word was found
pub record SeesKind (b v : PortValue) (f i : ℕ) (t : PageType) (word g : ℕ) (want : PageType) (x : ℕ) : Type 0 where
  pub from : PortValue
  pub sees : SeesTyped b from f i t word g want
  pub look : Moves from v (Kind g) Load kinds.Look None x
  pub same : Same from v

abbrev pub HasSeenTyped : PortValue → ℕ → ℕ → ℕ → PageType → Type 0
HasSeenTyped v f i g want = (b : PortValue) × (t : PageType) × (word : ℕ) × SeesTyped b v f i t word g want

abbrev pub HasSeenKind : PortValue → ℕ → ℕ → ℕ → PageType → ℕ → Type 0
HasSeenKind v f i g want x = (b : PortValue) × (t : PageType) × (word : ℕ) × SeesKind b v f i t word g want x

abbrev pub HasSeenLive : PortValue → ℕ → ℕ → ℕ → PageType → Type 0
HasSeenLive v f i g want = (x : ℕ) × HasSeenKind v f i g want x × (is_live_word x ≡ true)

-- ---- P of each port before which the looks led to v, and of the table's type
abbrev pub FromTyped : PortValue → ℕ → ℕ → ℕ → PageType → (PortValue → PageType → Type 0) → Type 0
FromTyped v f i g want P = (b : PortValue) (t : PageType) (word : ℕ) → SeesTyped b v f i t word g want → P b t

abbrev pub FromKind : PortValue → ℕ → ℕ → ℕ → PageType → ℕ → (PortValue → PageType → Type 0) → Type 0
FromKind v f i g want x P = (b : PortValue) (t : PageType) (word : ℕ) → SeesKind b v f i t word g want x → P b t

abbrev pub FromLive : PortValue → ℕ → ℕ → ℕ → PageType → (PortValue → PageType → Type 0) → Type 0
FromLive v f i g want P = (x : ℕ) → is_live_word x ≡ true → FromKind v f i g want x P

-- ---- and of a partial frame that came into the own works behind the looks
pub record Resumed (b v : PortValue) (f i : ℕ) (t : PageType) (word g : ℕ) (want : PageType) (k : KindWord) : Type 0 where
  pub from : PortValue
  pub found : ℕ
  pub sees : SeesKind b from f i t word g want found
  pub read : kind_read found ≡ Some k
  pub partial : IsTrue (is_partial k)
  pub step : Moves from v (Kind g) (Cas (kind_write k) (kind_write (resumed_kind k))) kinds.Kind None (kind_write k)
  pub hand : Holds from v (resumed_work g k from.holdings)

abbrev pub HasResumed : PortValue → ℕ → ℕ → ℕ → PageType → KindWord → Type 0
HasResumed v f i g want k = (b : PortValue) × (t : PageType) × (word : ℕ) × Resumed b v f i t word g want k

abbrev pub FromResumed : PortValue → ℕ → ℕ → ℕ → PageType → KindWord → (PortValue → PageType → Type 0) → Type 0
FromResumed v f i g want k P = (b : PortValue) (t : PageType) (word : ℕ) → Resumed b v f i t word g want k → P b t

-- what the steps are and show
pub record Releases (v w : PortValue) (f i : ℕ) (t : PageType) (owner pages : ℕ) (answer : Result Released Stop) : Type 0 where
  pub serves : Serves v w (of_entries owner pages) (misses v.post.machine answer)
  pub stops : IfErr answer (λ e. Stops v w (of_entries owner pages) e)
  pub kinds : IfErr answer IsReleaseStop
  pub shows : IfOk answer (λ a. ShowsReleased v w owner pages t a)
  pub looks : LooksOnly v w f i

-- ---- what a call ensures
pub record ReleasesEntry (v w : PortValue) (f i : ℕ) (t : PageType) (answer : Result Released Stop) : Type 0 where
  pub serves : (owner pages : ℕ) → Serves v w (of_entries owner pages) (misses v.post.machine answer)
  pub stops : (owner pages : ℕ) → IfErr answer (λ e. Stops v w (of_entries owner pages) e)
  pub kinds : IfErr answer IsReleaseStop
  -- so it stops only where the last entry was noted as unsettled: then its frame may be partial, or in another vCPU's work
  pub settled : IsSettledTop v.holdings → IsShedLive answer
  pub shows : (owner pages : ℕ) → IfOk answer (λ a. ShowsReleased v w owner pages t a)
  pub looks : LooksOnly v w f i
  pub hand : MatchResult answer (λ a. LeavesReleased v w f t i a) (λ _. StaysRecorded v w f i)
  pub owned : IfOk answer (λ a. OwnsReleased v w f a)
  -- by the words that the steps found
  pub found : ReleasesFound v w f i t answer
  -- on a board that tells all words
  pub plain : TwinRelease v w f t i answer
