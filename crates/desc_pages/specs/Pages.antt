-- A frame of the own domain taken as a descriptor page: what that asks, what it leaves in hand, and by which calls.
use Rattle.std.specs.Prelude.{◌≡◌, ◌⊎◌, ℕ, ◌<◌, false, List, [], ◌∷◌, Some, None, true, Result, Ok, Err, IfOk, IfErr, IsTrue, ◌+◌, ◌*◌, ◌≤◌, length}
use Rattle.xp_words.specs.Places.{sizes_of}
use Rattle.xp_words.specs.declared.kind.PageType.TheVariants.{Desc}
use Rattle.xp_words.specs.declared.place.Place.TheVariants.{Clock, Kind}
use Rattle.xp_words.specs.KindWords.{kind_write}
use Rattle.xp_words.specs.declared.reply.Pause.TheVariants.{Busy, Flush, Lost}
use Rattle.xp_words.specs.declared.reply.Refusal.TheVariants as refusals
use Rattle.xp_words.specs.declared.reply.Stop.{Stop}
use Rattle.xp_words.specs.declared.reply.Stop.TheVariants.{Refused, Paused}
use Rattle.xp_board.specs.declared.holdings.OwnerFound.TheVariants as owners
use Rattle.xp_board.specs.declared.holdings.Work.{Work}
use Rattle.xp_board.specs.declared.step.Act.TheVariants.{Load, Store}
use Rattle.xp_board.specs.declared.step.StepKind.TheVariants as kinds
use Rattle.xp_board.specs.Hands.{typed_to}
use Rattle.xp_board.specs.KindSteps.{live_typed}
use Rattle.xp_board.specs.Knowledge.{knows_live}
use Rattle.xp_board.specs.Told.{PortValue}
use Rattle.step_maker.specs.Holds.{FlushedHolds, FlushedSame}
use Rattle.step_maker.specs.Moves.{Came, Moves}
use Rattle.step_maker.specs.Answers.{Deed, Serves, Stops, misses}
use Rattle.step_maker.specs.Asked.{Request, of_frame, of_table}
use Rattle.step_maker.specs.Visits.{Does}
use Rattle.kept_marks.specs.Marks.{KeptFor}
use Rattle.kind_words.specs.Kinds.{dead_kind, live_kind, partial_kind}
use Rattle.frame_types.specs.Found.{DeadBy, TakesFound}
use Rattle.frame_types.specs.Plain.{TwinTake}
use Rattle.frame_types.specs.Leaving.{WaitsFrom}
use Rattle.frame_types.specs.Taking.{WorksFrom, typed_as}
use Rattle.frame_words.specs.Freeing.{gave}
use Rattle.frame_types.specs.declared.taking.Taken.{Taken}
use Rattle.frame_types.specs.declared.taking.Taken.TheVariants.{Counted, InWork, Waiting}
use Rattle.table_entries.specs.Acquiring.{GaveRef, GotRef}
use Rattle.desc_pages.specs.Fixing.{Fixes, Unfixes}

-- The frame for that type; and its words are read. (No table comes into the own works, so no entry asks anything.)
abbrev pub of_desc : ℕ → ℕ → Request
of_desc f owner = of_table f owner (Some Desc) owner false

-- no typed reference to the frame is in hand, or it is known live as such a page by one
abbrev pub IsDescAside : PortValue → ℕ → Type 0
IsDescAside v f = (typed_to f v.holdings.typed ≡ 0) ⊎ IsTrue (knows_live (sizes_of v.post.machine) f Desc v.holdings)

-- once the reference is had
abbrev pub IsTakenStop : Stop → Type 0
IsTakenStop (Refused (refusals.OtherType f want found)) = Unit {0}
IsTakenStop (Refused (refusals.BadDescriptor f i word)) = Unit {0}
IsTakenStop (Refused (refusals.Clock found)) = Unit {0}
IsTakenStop (Paused (Lost place expected found)) = Unit {0}
IsTakenStop (Paused (Busy f found)) = Unit {0}
IsTakenStop (Paused (Flush vcpu stamp found)) = Unit {0}
IsTakenStop _ = ⊥

abbrev pub IsDescStop : Stop → Type 0
IsDescStop (Refused (refusals.NoFrame f)) = Unit {0}
IsDescStop (Refused (refusals.WrongOwner f found)) = Unit {0}
IsDescStop (Refused (refusals.CountFull f found)) = Unit {0}
IsDescStop (Refused (refusals.OtherType f want found)) = Unit {0}
IsDescStop (Refused (refusals.BadDescriptor f i word)) = Unit {0}
IsDescStop (Refused (refusals.Clock found)) = Unit {0}
IsDescStop (Paused (Lost place expected found)) = Unit {0}
IsDescStop (Paused (Busy f found)) = Unit {0}
IsDescStop (Paused (Flush vcpu stamp found)) = Unit {0}
IsDescStop _ = ⊥

-- a typed reference to it is in hand; or nothing more than before
abbrev pub LeavesDesc : PortValue → PortValue → ℕ → Result ℕ Stop → Type 0
LeavesDesc v w owner (Ok g) = FlushedHolds v w (record v.holdings { typed = live_typed g Desc (owners.Of owner) ∷ v.holdings.typed })
LeavesDesc v w owner (Err e) = FlushedSame v w

-- the untyped reference in hand became a typed one; or it is given back
abbrev pub LeavesTaken : PortValue → PortValue → ℕ → ℕ → Result (Unit {0}) Stop → Type 0
LeavesTaken v w f owner (Ok done) = FlushedHolds v w (typed_as f owner Desc v.holdings)
LeavesTaken v w f owner (Err e) = FlushedHolds v w (gave f v.holdings)

-- ---- by its calls
-- the type is taken, or not, by the words that were found, and on a board that tells all words
pub record TookDescType (v w : PortValue) (f owner : ℕ) (answer : Result Taken Stop) : Type 0 where
  pub found : TakesFound v w f owner Desc answer
  pub plain : TwinTake v w f Desc answer

-- dead, with a clock value that was found
pub record DiedDesc (v w : PortValue) (f : ℕ) : Type 0 where
  pub seen : PortValue
  pub dead : PortValue
  pub clock : ℕ
  pub old : ℕ
  pub looks : Moves v seen Clock Load kinds.Look None clock
  pub stores : Moves seen dead (Kind f) (Store (kind_write (dead_kind Desc false clock))) kinds.Kind None old
  pub gives : GaveRef dead w f

-- it is live, all its words fixed; or one has no fixed form, and it is dead
pub data PageValidated (v w : PortValue) (f : ℕ) : Result (Unit {0}) Stop → Type 0 where
  unfixed : (z : PortValue) (e : Work) (i word : ℕ) → i < 512 → Unfixes v z f i word e [] → DiedDesc z w f → PageValidated v w f (Err (Refused (refusals.BadDescriptor f i word)))
  fixed : (z : PortValue) (e : Work) (old : ℕ) → Fixes v z f 512 e [] → Moves z w (Kind f) (Store (kind_write (live_kind Desc 1))) kinds.Kind None old → PageValidated v w f (Ok tt)

-- A page that waits for a flush which is not to be had: a refusal leaves it dead; a pause leaves its type count in its `kept` mark.
abbrev pub DescLeft : PortValue → PortValue → ℕ → ℕ → ℕ → Stop → Type 0
DescLeft v w f owner stamp (Refused x) = Does v w (λ vs. DeadBy f Desc vs)
DescLeft v w f owner stamp (Paused x) = KeptFor v w f (partial_kind Desc true true 0 stamp) owner

-- under a reference that is in hand
pub data TookDesc (v : PortValue) (f owner : ℕ) : PortValue → Result (Unit {0}) Stop → Type 0 where
  untyped : (y w : PortValue) (stop : Stop) → TookDescType v y f owner (Err stop) → GaveRef y w f → TookDesc v f owner w (Err stop)
  counted : (w : PortValue) → TookDescType v w f owner (Ok Counted) → TookDesc v f owner w (Ok tt)
  waiting : (y w : PortValue) (stamp : ℕ) (stop : Stop) → TookDescType v y f owner (Ok (Waiting true stamp stop)) → DescLeft y w f owner stamp stop → TookDesc v f owner w (Err stop)
  read : (y w : PortValue) (answer : Result (Unit {0}) Stop) → TookDescType v y f owner (Ok (InWork 0 true)) → PageValidated y w f answer → TookDesc v f owner w answer

-- with one of its own
pub data GotDesc (v : PortValue) (f owner : ℕ) : PortValue → Result ℕ Stop → Type 0 where
  unreferred : (w : PortValue) (stop : Stop) → GotRef v w f owner (Err stop) → GotDesc v f owner w (Err stop)
  untaken : (u w : PortValue) (stop : Stop) → GotRef v u f owner (Ok f) → TookDesc u f owner w (Err stop) → GotDesc v f owner w (Err stop)
  had : (u w : PortValue) → GotRef v u f owner (Ok f) → TookDesc u f owner w (Ok tt) → GotDesc v f owner w (Ok f)

-- ---- the whole calls
-- so many steps at most, and four for each vCPU of the machine
abbrev pub IsShort : PortValue → PortValue → ℕ → Type 0
IsShort v w k = length w.holdings.steps ≤ length v.holdings.steps + (k + 4 * length v.post.machine.vcpu_domain)

-- Under the reference in hand: its steps serve what is asked, show why the page is not to be had, leave that in hand, and are these calls.
pub record TakesDesc (v w : PortValue) (f owner : ℕ) (answer : Result (Unit {0}) Stop) : Type 0 where
  pub came : Came v w
  pub serves : Serves v w (of_desc f owner) (misses v.post.machine answer)
  pub stops : IfErr answer (λ e. Stops v w (of_desc f owner) e)
  pub kinds : IfErr answer IsTakenStop
  pub hand : LeavesTaken v w f owner answer
  pub course : TookDesc v f owner w answer
  pub short : IsShort v w 1040

-- With a reference of its own.
pub record GetsDesc (v w : PortValue) (f owner : ℕ) (answer : Result ℕ Stop) : Type 0 where
  pub came : Came v w
  pub frame : IfOk answer (λ g. (g ≡ f) × (g < v.post.machine.frames))
  pub serves : Serves v w (of_desc f owner) (misses v.post.machine answer)
  pub stops : IfErr answer (λ e. Stops v w (of_desc f owner) e)
  pub kinds : IfErr answer IsDescStop
  pub hand : LeavesDesc v w owner answer
  pub course : GotDesc v f owner w answer
  pub short : IsShort v w 1050

-- ---- a page that came into work
-- from b on it was held by an untyped reference, which is its type count now
pub record TakenFrom (b v : PortValue) (f owner : ℕ) : Type 0 where
  pub works : WorksFrom b v f owner Desc 0 true
  pub none : b.holdings.works ≡ []
  pub locks : b.holdings.locks ≡ []
  pub claimed : b.holdings.claimed ≡ []

-- live, under a typed reference in hand; or the reference is given back
pub record Validates (b v w : PortValue) (f owner : ℕ) (answer : Result (Unit {0}) Stop) : Type 0 where
  pub came : Came v w
  pub hand : LeavesTaken b w f owner answer
  pub serves : (u : PortValue) (ds : List Deed) → Serves u v (of_desc f owner) ds → Serves u w (of_desc f owner) ds
  pub stops : IfErr answer (λ e. (u : PortValue) → Came u v → Stops u w (of_desc f owner) e)
  pub course : PageValidated v w f answer

-- ---- a page that waits
-- in the own works, marked, from wherever it came there, with its type count in hand
abbrev pub IsDescWaiting : PortValue → ℕ → ℕ → ℕ → Type 0
IsDescWaiting v f owner stamp = (b : PortValue) × WaitsFrom b v f owner Desc true stamp × (b.holdings.works ≡ [])

-- left: from there on, its reference is given back
pub record LeavesWaiting (v w : PortValue) (f owner stamp : ℕ) (stop : Stop) : Type 0 where
  pub came : Came v w
  pub serves : (u : PortValue) (ds : List Deed) → Serves u v (of_frame f owner (Some Desc)) ds → Serves u w (of_frame f owner (Some Desc)) ds
  pub hand : (b : PortValue) → WaitsFrom b v f owner Desc true stamp → FlushedHolds b w (gave f b.holdings)
  pub course : DescLeft v w f owner stamp stop
