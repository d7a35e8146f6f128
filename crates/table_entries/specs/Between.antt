-- Between the steps of one entry: what a look at it found, and what is to hold at the end.
use Rattle.std.specs.Prelude.{◌≡◌, ℕ, ◌+◌, ◌<◌, ◌≤◌, Bool, false, [], None, Result, Ok, IfOk, IfErr, MatchResult}
use Rattle.xp_words.specs.Entries.{below, demand_at}
use Rattle.xp_words.specs.declared.entry.Demand.{Demand}
use Rattle.xp_words.specs.declared.entry.Demand.TheVariants.{Typed}
use Rattle.xp_words.specs.declared.kind.PageType.{PageType}
use Rattle.xp_words.specs.declared.place.Place.TheVariants.{Cell, Kind}
use Rattle.xp_words.specs.declared.reply.Stop.{Stop}
use Rattle.xp_board.specs.declared.step.Act.TheVariants.{Load}
use Rattle.xp_board.specs.declared.step.StepKind.TheVariants as kinds
use Rattle.xp_board.specs.After.{learned_cell}
use Rattle.xp_board.specs.Readings.{is_live_word}
use Rattle.xp_board.specs.Told.{PortValue}
use Rattle.step_maker.specs.Holds.{Holds, Same}
use Rattle.step_maker.specs.Moves.{Moves}
use Rattle.step_maker.specs.Answers.{Serves, Stops, misses}
use Rattle.step_maker.specs.Asked.{of_frame}
use Rattle.flush_waits.specs.Waiting.{IsKnownOwner}
use Rattle.frame_types.specs.Found.{TakesFound}
use Rattle.frame_types.specs.Plain.{TwinTake}
use Rattle.frame_types.specs.Taking.{IsNotLive, IsOfOther, Looked, Takes}
use Rattle.frame_types.specs.declared.taking.Taken.{Taken}
use Rattle.frame_types.specs.declared.taking.Taken.TheVariants.{Waiting}
use Rattle.frame_words.specs.Plain.{TwinGet}
use Rattle.frame_words.specs.Refs.{Gets, took}
use Rattle.table_entries.specs.Asking.{IsEntryStop, LooksOnly, ShowsEntered, ShowsResumed, of_entries}
use Rattle.table_entries.specs.Found.{EntersFound, ResumesFound}
use Rattle.table_entries.specs.Plain.{TwinEntry, TwinResume}
use Rattle.table_entries.specs.Tops.{HoldsWorks, LeavesEntered, LeavesResumed, LookedAnd, WorksNext, WorksAtTop, as_it_was}
use Rattle.table_entries.specs.declared.entries.Entered.{Entered}
use Rattle.table_entries.specs.declared.resuming.Resumed.{Resumed}

-- from b to v entry i of frame f was looked at, and that word found
pub record SeesEntry (b v : PortValue) (f i : ℕ) (t : PageType) (word : ℕ) : Type 0 where
  pub look : Moves b v (Cell f i) Load kinds.Look None word
  pub hand : Holds b v (learned_cell f i word b.holdings)
  pub frame : f < b.post.machine.frames
  pub index : i < 512
  pub held : HoldsWorks b.holdings
  pub above : (g : ℕ) → IsOfOther g (below t) b.holdings
  pub looked : b.holdings.looking ≡ []

-- it is the next one of a table whose owner is known
pub record LooksNext (b v : PortValue) (f i owner : ℕ) (t : PageType) (word : ℕ) : Type 0 where
  pub looks : SeesEntry b v f i t word
  pub works : WorksNext b.post.machine f t i b.holdings
  pub known : IsKnownOwner f owner b.holdings

-- it is the last recorded one
pub record LooksAgain (b v : PortValue) (f i : ℕ) (t : PageType) (word : ℕ) : Type 0 where
  pub looks : SeesEntry b v f i t word
  pub works : WorksAtTop f t (i + 1) b.holdings

-- and asks that
abbrev pub HasLooked : PortValue → ℕ → ℕ → ℕ → PageType → Demand → Type 0
HasLooked v f i owner t d = (b : PortValue) × (word : ℕ) × LooksNext b v f i owner t word × (demand_at t i word ≡ d)

abbrev pub HasLookedAgain : PortValue → ℕ → ℕ → PageType → Demand → Type 0
HasLookedAgain v f i t d = (b : PortValue) × (word : ℕ) × LooksAgain b v f i t word × (demand_at t i word ≡ d)

-- the frame is the machine's and was found live; or it is not, or was found otherwise
pub data LooksLive (v w : PortValue) (g : ℕ) : Bool → Type 0 where
  outside : v.post.machine.frames ≤ g → w ≡ v → LooksLive v w g false
  found : (word : ℕ) (live : Bool) → g < v.post.machine.frames → Moves v w (Kind g) Load kinds.Look None word → Same v w → is_live_word word ≡ live → LooksLive v w g live

-- the last recorded entry was looked at, and its frame is not found live
abbrev pub HasFoundOther : PortValue → ℕ → ℕ → PageType → Demand → Type 0
HasFoundOther v f i t (Typed g want) = (u : PortValue) × HasLookedAgain u f i t (Typed g want) × LooksLive u v g false
HasFoundOther v f i t d = ⊥

-- what the steps of the call are and show, from before the look on; S of what is answered where it does not stop
pub record Meets {A : Type 0} (v w : PortValue) (f i owner pages : ℕ) (S : A → Type 0) (answer : Result A Stop) : Type 0 where
  pub serves : Serves v w (of_entries owner pages) (misses v.post.machine answer)
  pub stops : IfErr answer (λ e. Stops v w (of_entries owner pages) e)
  pub kinds : IfErr answer IsEntryStop
  pub shows : IfOk answer S
  pub looks : LooksOnly v w f i

-- and what it leaves in hand
abbrev pub HandEntered : PortValue → PortValue → ℕ → ℕ → ℕ → PageType → Result Entered Stop → Type 0
HandEntered v w f i owner t answer = MatchResult answer (λ a. LeavesEntered v w f t i owner a) (λ e. LookedAnd v w f i as_it_was)

abbrev pub HandResumed : PortValue → PortValue → ℕ → ℕ → ℕ → PageType → Result Resumed Stop → Type 0
HandResumed v w f i owner t answer = MatchResult answer (λ a. LeavesResumed v w f t i owner a) (λ e. LookedAnd v w f i as_it_was)

-- ---- what a call ensures
pub record TakesNext (v w : PortValue) (f i owner : ℕ) (t : PageType) (answer : Result Entered Stop) : Type 0 where
  pub serves : (pages : ℕ) → Serves v w (of_entries owner pages) (misses v.post.machine answer)
  pub stops : (pages : ℕ) → IfErr answer (λ e. Stops v w (of_entries owner pages) e)
  pub kinds : IfErr answer IsEntryStop
  pub shows : (pages : ℕ) → IfOk answer (λ a. ShowsEntered v w owner pages t a)
  pub looks : LooksOnly v w f i
  -- by the words that the steps found
  pub found : EntersFound v w f i t owner answer
  pub hand : HandEntered v w f i owner t answer
  -- on a board that tells all words
  pub plain : TwinEntry v w f t i owner answer

pub record TakesLast (v w : PortValue) (f i owner : ℕ) (t : PageType) (answer : Result Resumed Stop) : Type 0 where
  pub serves : (pages : ℕ) → Serves v w (of_entries owner pages) (misses v.post.machine answer)
  pub stops : (pages : ℕ) → IfErr answer (λ e. Stops v w (of_entries owner pages) e)
  pub kinds : IfErr answer IsEntryStop
  pub shows : (pages : ℕ) → IfOk answer (λ a. ShowsResumed v w owner pages t a)
  pub looks : LooksOnly v w f i
  -- by the words that the steps found: it is taken again only where its frame was not found live
  pub found : ResumesFound v w f i t owner answer
  pub hand : HandResumed v w f i owner t answer
  pub plain : TwinResume v w f t i owner answer

-- ---- the same of any look before
-- P of each port before which the look at the next entry led to v, where the entry asks d
abbrev pub FromLook : PortValue → ℕ → ℕ → ℕ → PageType → Demand → (PortValue → Type 0) → Type 0
FromLook v f i owner t d P = (b : PortValue) (word : ℕ) → LooksNext b v f i owner t word → demand_at t i word ≡ d → P b

-- and where the looks at the last recorded entry and at its frame did, which is not live
abbrev pub FromLooks : PortValue → ℕ → ℕ → PageType → Demand → (PortValue → Type 0) → Type 0
FromLooks v f i t (Typed g want) P =
    (b u : PortValue) (word : ℕ) → LooksAgain b u f i t word → demand_at t i word ≡ Typed g want → LooksLive u v g false → P b
FromLooks v f i t d P = ⊥

-- ---- where the entry asks a type of frame g
-- its reference was taken
pub record HadRef (b x : PortValue) (f i owner : ℕ) (t : PageType) (g : ℕ) (want : PageType) : Type 0 where
  pub u : PortValue
  pub word : ℕ
  pub looks : LooksNext b u f i owner t word
  pub asks : demand_at t i word ≡ Typed g want
  pub inside : g < u.post.machine.frames
  pub refers : Serves u x (of_frame g owner None) []
  pub lent : Holds u x (took g owner u.holdings)
  pub referred : TwinGet u x g owner (Ok g)
  pub gets : Gets u x g owner (Ok g)

-- and what was answered for the type
pub record TypeTaken (x y : PortValue) (g owner : ℕ) (want : PageType) (answer : Result Taken Stop) : Type 0 where
  pub takes : Takes x y g owner want answer
  pub found : TakesFound x y g owner want answer
  pub plain : TwinTake x y g want answer

-- ---- where the frame waits for a flush
pub record EntryLeftWaiting (b v : PortValue) (f i owner : ℕ) (t : PageType) (g : ℕ) (want : PageType) (own : Bool) (stamp : ℕ) (stop : Stop) : Type 0 where
  pub x : PortValue
  pub had : HadRef b x f i owner t g want
  pub taken : TypeTaken x v g owner want (Ok (Waiting own stamp stop))

abbrev pub HasWaited : PortValue → ℕ → ℕ → ℕ → PageType → ℕ → PageType → Bool → ℕ → Stop → Type 0
HasWaited v f i owner t g want own stamp stop = (b : PortValue) × EntryLeftWaiting b v f i owner t g want own stamp stop

abbrev pub FromWait : PortValue → ℕ → ℕ → ℕ → PageType → ℕ → PageType → Bool → ℕ → Stop → (PortValue → Type 0) → Type 0
FromWait v f i owner t g want own stamp stop P = (b : PortValue) → EntryLeftWaiting b v f i owner t g want own stamp stop → P b

-- ---- where the frame is not found live
pub record FoundOther (b v : PortValue) (f i owner : ℕ) (t : PageType) (g : ℕ) (want : PageType) (kind : ℕ) : Type 0 where
  pub x : PortValue
  pub had : HadRef b x f i owner t g want
  pub looked : Looked x v g owner want kind
  pub other : IsNotLive want kind

abbrev pub HasFound : PortValue → ℕ → ℕ → ℕ → PageType → ℕ → PageType → ℕ → Type 0
HasFound v f i owner t g want kind = (b : PortValue) × FoundOther b v f i owner t g want kind

abbrev pub FromFound : PortValue → ℕ → ℕ → ℕ → PageType → ℕ → PageType → ℕ → (PortValue → Type 0) → Type 0
FromFound v f i owner t g want kind P = (b : PortValue) → FoundOther b v f i owner t g want kind → P b
