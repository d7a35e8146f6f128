-- Types that are taken and given back: what they leave in hand.
use Rattle.std.specs.Prelude.{◌≡◌, ◌≢◌, ◌⊎◌, ℕ, ◌<◌, ◌≤◌, ◌==◌, ◌||◌, not, if◌then◌else◌, Bool, true, false, List, [], ◌∷◌, length, Some, None, Result, Ok, Err, IfOk, IfErr, MatchResult, IsTrue}
use Rattle.xp_words.specs.Machine.{Machine}
use Rattle.xp_words.specs.Places.{sizes_of}
use Rattle.xp_words.specs.KindWords.{is_kind, kind_fields, kind_read, kind_write}
use Rattle.xp_words.specs.PageTypes.{is_none, is_table, type_number}
use Rattle.xp_words.specs.declared.kind.PageType.{PageType}
use Rattle.xp_words.specs.declared.reply.Stop.{Stop}
use Rattle.xp_words.specs.declared.reply.Stop.TheVariants.{Refused, Paused}
use Rattle.xp_words.specs.declared.reply.Refusal.TheVariants as refusals
use Rattle.xp_words.specs.declared.reply.Pause.TheVariants.{Busy, Flush, Lost}
use Rattle.xp_board.specs.declared.holdings.Holdings.{Holdings}
use Rattle.xp_board.specs.declared.holdings.Liveness.TheVariants.{Since}
use Rattle.xp_board.specs.declared.holdings.OwnerFound.TheVariants as owners
use Rattle.xp_board.specs.declared.holdings.Reference.{Reference}
use Rattle.xp_board.specs.declared.holdings.TypedReference.{TypedReference}
use Rattle.xp_board.specs.declared.holdings.Work.{Work}
use Rattle.xp_board.specs.Hands.{without_ref, without_typed, typed_to, work_on}
use Rattle.xp_board.specs.Knowledge.{knows_live}
use Rattle.xp_board.specs.KindSteps.{live_typed}
use Rattle.xp_board.specs.Readings.{is_live_word, is_type, is_work}
use Rattle.xp_board.specs.Steps.{some_since}
use Rattle.xp_board.specs.Told.{PortValue}
use Rattle.step_maker.specs.Holds.{FlushedHolds, MayWork, Same}
use Rattle.step_maker.specs.Moves.{Came, Met, Moves}
use Rattle.xp_board.specs.declared.step.Act.TheVariants.{Load}
use Rattle.xp_board.specs.declared.step.StepKind.TheVariants as kinds
use Rattle.xp_words.specs.declared.place.Place.TheVariants.{Kind}
use Rattle.xp_words.specs.declared.kind.KindWord.{KindWord}
use Rattle.kind_words.specs.Kinds.{work_kind}
use Rattle.xp_words.specs.declared.kind.PageType.TheVariants.{Writable}
use Rattle.step_maker.specs.Answers.{Deed, Serves, Stops, misses}
use Rattle.step_maker.specs.Reasons.{AwaitsStamp, OfOwner}
use Rattle.step_maker.specs.Asked.{of_frame}
use Rattle.flush_waits.specs.Waiting.{IsWait}
use Rattle.frame_types.specs.Standing.{standing_of}
use Rattle.frame_types.specs.declared.standing.Standing.{Standing}
use Rattle.frame_types.specs.declared.standing.Standing.TheVariants as stands
use Rattle.frame_types.specs.declared.taking.Counting.{Counting}
use Rattle.frame_types.specs.declared.taking.Counting.TheVariants as countings
use Rattle.frame_types.specs.declared.taking.Taken.{Taken}
use Rattle.frame_types.specs.declared.taking.Taken.TheVariants.{Counted, InWork, Waiting}

-- the newest untyped reference in hand is one to frame f, which that domain was found to own
pub record LentBy (f owner : ℕ) (h : Holdings) : Type 0 where
  pub others : List Reference
  pub refs : h.refs ≡ record { frame = f; owner = owners.Of owner } ∷ others

-- a frame that it works on itself is of another type
abbrev pub IsOfOther : ℕ → PageType → Holdings → Type 0
IsOfOther f want h = (e : Work) → work_on f h.works ≡ Some e → is_type (kind_fields e.word).kind want ≡ false

-- where the vCPU does not work on the frame, it has no typed reference to it; or it knows the frame live with that type by one
abbrev pub IsAsideFor : Machine → ℕ → PageType → Holdings → Type 0
IsAsideFor n f want h = work_on f h.works ≡ None → (typed_to f h.typed ≡ 0) ⊎ IsTrue (knows_live (sizes_of n) f want h)

-- ---- what a call asks
-- what `take_type` asks, of a frame and the newest untyped reference in hand
pub record MayTakeType (v : PortValue) (f owner : ℕ) (want : PageType) : Type 0 where
  pub frame : f < v.post.machine.frames
  pub may : MayWork v
  pub wanted : IsTrue (not (is_none want))
  pub lent : LentBy f owner v.holdings
  pub aside : IsAsideFor v.post.machine f want v.holdings
  pub other : IsOfOther f want v.holdings
  pub looked : v.holdings.looking ≡ []

-- an untyped reference became a typed one, known live
abbrev pub typed_as : ℕ → ℕ → PageType → Holdings → Holdings
typed_as f owner want h = record h { refs = without_ref f h.refs; typed = live_typed f want (owners.Of owner) ∷ h.typed }

-- a typed reference to a frame in the own works, taken after so many steps
abbrev pub working_typed : ℕ → ℕ → PageType → ℕ → TypedReference
working_typed f owner want since = record { frame = f; kind = Some want; owner = owners.Of owner; live = Since since }

-- The frame is in the own works. `own`: the untyped reference became its type count; else it stayed in hand.
abbrev pub working : ℕ → ℕ → PageType → Bool → Work → ℕ → Holdings → Holdings
working f owner want own e since h =
    if own then record h { refs = without_ref f h.refs; typed = working_typed f owner want since ∷ h.typed; works = e ∷ h.works } else record h { works = e ∷ h.works }

pub record IsWorking (v w : PortValue) (f owner : ℕ) (want : PageType) (own : Bool) (e : Work) : Type 0 where
  pub since : ℕ
  pub taken : since ≤ length w.holdings.steps
  pub frame : e.frame ≡ f
  pub in_work : IsTrue (is_work (kind_fields e.word))
  pub kind : (kind_fields e.word).kind ≡ want
  pub earlier : e.since ≤ length w.holdings.steps
  pub aside : typed_to f v.holdings.typed ≡ 0
  pub hand : FlushedHolds v w (working f owner want own e since v.holdings)

-- in work, with its entries recorded up to there, and past its flush; where none is recorded, none is unsettled. No word of it is known to be fixed;
-- a descriptor page has its type count in hand and nothing recorded.
pub record WorksFrom (v w : PortValue) (f owner : ℕ) (want : PageType) (progress : ℕ) (own : Bool) : Type 0 where
  pub work : Work
  pub works : IsWorking v w f owner want own work
  pub recorded : work.recorded ≡ progress
  pub settled : progress ≡ 0 → work.unsettled ≡ None
  pub unmarked : (kind_fields work.word).unflushed ≡ false
  pub unfixed : work.fixed ≡ 0
  pub whose : IsTrue (not (type_number want == 5) || own)
  pub bare : type_number want ≡ 5 → progress ≡ 0

-- in work, marked with that stamp, and nothing recorded; a descriptor page with its type count in hand
pub record WaitsWith (v w : PortValue) (f owner : ℕ) (want : PageType) (own : Bool) (stamp : ℕ) : Type 0 where
  pub work : Work
  pub works : IsWorking v w f owner want own work
  pub none : work.recorded ≡ 0
  pub settled : work.unsettled ≡ None
  pub marked : (kind_fields work.word).unflushed ≡ true
  pub stamped : (kind_fields work.word).number ≡ stamp
  pub typed : IsTrue (not (is_none want))
  pub whose : IsTrue (not (type_number want == 5) || own)

abbrev pub TakesAs : PortValue → PortValue → ℕ → ℕ → PageType → Taken → Type 0
TakesAs v w f owner want Counted = FlushedHolds v w (typed_as f owner want v.holdings)
TakesAs v w f owner want (InWork progress own) = (want ≢ Writable) × WorksFrom v w f owner want progress own
TakesAs v w f owner want (Waiting own stamp stop) = WaitsWith v w f owner want own stamp

-- a live frame was found or left live by the steps
abbrev pub LeavesLive : PortValue → PortValue → ℕ → Taken → Type 0
LeavesLive v w f Counted = (n : ℕ) → n ≤ length v.holdings.steps → IsTrue (some_since (sizes_of v.post.machine) n (Kind f) is_live_word w.holdings.steps)
LeavesLive v w f _ = Unit {0}

-- why the flush is not to be had
abbrev pub ShowsWait : PortValue → PortValue → ℕ → ℕ → PageType → Taken → Type 0
ShowsWait v w f owner want (Waiting own stamp stop) = IsWait stop × Stops v w (of_frame f owner (Some want)) stop
ShowsWait v w f owner want _ = Unit {0}

-- ---- why a type is not to be had
abbrev pub IsTypeStop : Stop → Type 0
IsTypeStop (Refused (refusals.OtherType f want found)) = Unit {0}
IsTypeStop (Refused (refusals.Clock found)) = Unit {0}
IsTypeStop (Paused (Lost place expected found)) = Unit {0}
IsTypeStop (Paused (Busy f found)) = Unit {0}
IsTypeStop (Paused (Flush vcpu stamp found)) = Unit {0}
IsTypeStop _ = ⊥

-- ---- given back
-- the frame is known live by a typed reference in hand, and is no table
pub record MayDropPlain (n : Machine) (f : ℕ) (kind : PageType) (h : Holdings) : Type 0 where
  pub held : 0 < typed_to f h.typed
  pub live : IsTrue (knows_live (sizes_of n) f kind h)
  pub plain : is_table kind ≡ false
  pub apart : work_on f h.works ≡ None

-- a typed reference went out of the hand
abbrev pub gave_type : ℕ → Holdings → Holdings
gave_type f h = record h { typed = without_typed f h.typed }

-- ---- between the steps
-- a look found that word, before any other step of the call
pub record Looked (b v : PortValue) (f owner : ℕ) (want : PageType) (word : ℕ) : Type 0 where
  pub look : Moves b v (Kind f) Load kinds.Look None word
  pub same : Same b v
  pub frame : f < b.post.machine.frames
  pub lent : LentBy f owner b.holdings
  pub aside : IsAsideFor b.post.machine f want b.holdings
  pub other : IsOfOther f want b.holdings
  pub looked : b.holdings.looking ≡ []

abbrev pub IsLooked : PortValue → ℕ → ℕ → PageType → ℕ → Type 0
IsLooked v f owner want word = (b : PortValue) × Looked b v f owner want word

-- what the rest of the call asks, where a look just found that word, and the frame stands so to the type by it
pub record MayTakeLooked (v : PortValue) (f owner : ℕ) (want : PageType) (word : ℕ) (Stands : Standing → Type 0) : Type 0 where
  pub frame : f < v.post.machine.frames
  pub may : MayWork v
  pub wanted : IsTrue (not (is_none want))
  pub looked : IsLooked v f owner want word
  pub stands : (k : KindWord) → kind_read word ≡ Some k → Stands (standing_of k want)

-- what the call ensures
pub record Takes (v w : PortValue) (f owner : ℕ) (want : PageType) (answer : Result Taken Stop) : Type 0 where
  pub serves : Serves v w (of_frame f owner (Some want)) (misses v.post.machine answer)
  pub stops : IfErr answer (λ e. Stops v w (of_frame f owner (Some want)) e)
  pub kinds : IfErr answer IsTypeStop
  pub waits : IfOk answer (λ t. ShowsWait v w f owner want t)
  pub hand : MatchResult answer (λ t. TakesAs v w f owner want t) (λ e. Same v w)

-- by its kind word a frame is not live with that type
abbrev pub IsNotLive : PageType → ℕ → Type 0
IsNotLive want word = (k : KindWord) → kind_read word ≡ Some k → standing_of k want ≢ stands.Counted

-- P of the answer, where the first part of the call has one; else Q of the kind word that was found
abbrev pub CountsAs : Result Counting Stop → (Result Taken Stop → Type 0) → (ℕ → Type 0) → Type 0
CountsAs (Ok countings.Counted) P Q = P (Ok Counted)
CountsAs (Ok (countings.Found word)) P Q = Q word
CountsAs (Err e) P Q = P (Err e)

-- the stamp of a word that is marked
abbrev pub stamp_by : Bool → KindWord → ℕ
stamp_by marked k = if marked then k.number else 0

-- how many entries are recorded of a frame that is partial
abbrev pub progress_of : KindWord → ℕ
progress_of k = if k.partial then k.progress else 0

-- From b to v the frame came into the own works, and nothing else changed in hand.
pub record Enters (b v : PortValue) (f owner : ℕ) (want : PageType) (marked : Bool) (stamp progress : ℕ) (own : Bool) : Type 0 where
  pub work : Work
  pub since : ℕ
  pub taken : since ≤ length v.holdings.steps
  pub frame : work.frame ≡ f
  pub word : work.word ≡ kind_write (work_kind want marked stamp)
  pub spelled : IsTrue (is_kind (work_kind want marked stamp))
  pub recorded : work.recorded ≡ progress
  pub settled : progress ≡ 0 → work.unsettled ≡ None
  pub none : marked ≡ true → progress ≡ 0
  pub unfixed : work.fixed ≡ 0
  pub bare : type_number want ≡ 5 → progress ≡ 0
  pub earlier : work.since ≤ length v.holdings.steps
  pub whose : IsTrue (not (type_number want == 5) || own)
  pub hand : FlushedHolds b v (working f owner want own work since b.holdings)
  pub lent : LentBy f owner b.holdings
  pub aside : typed_to f b.holdings.typed ≡ 0

abbrev pub HasEntered : PortValue → ℕ → ℕ → PageType → Bool → KindWord → Bool → Type 0
HasEntered v f owner want marked k own = (b : PortValue) × Enters b v f owner want marked (stamp_by marked k) (progress_of k) own

-- the flush that a marked frame waits for is one that a piece from u to v awaits
abbrev pub AwaitedThere : PortValue → PortValue → ℕ → ℕ → PageType → Bool → ℕ → Type 0
AwaitedThere u v f owner want marked stamp = marked ≡ true → AwaitsStamp v.post.machine v.post.vcpu (of_frame f owner (Some want)) (Met u v) (OfOwner owner) stamp

-- Behind any steps for that type which await the flush, those from v to w serve it too; and they show there why it waits.
abbrev pub ServesOn : PortValue → PortValue → ℕ → ℕ → PageType → Bool → ℕ → Type 0
ServesOn v w f owner want marked stamp =
    (u : PortValue) (ds : List Deed) → Serves u v (of_frame f owner (Some want)) ds → AwaitedThere u v f owner want marked stamp → Serves u w (of_frame f owner (Some want)) ds

abbrev pub WaitsOn : PortValue → PortValue → ℕ → ℕ → PageType → Bool → ℕ → Taken → Type 0
WaitsOn v w f owner want marked stamp t =
    (u : PortValue) → Came u v → AwaitedThere u v f owner want marked stamp → ShowsWait u w f owner want t

-- the hand, from wherever the frame came into the own works
abbrev pub HoldsOn : PortValue → PortValue → ℕ → ℕ → PageType → Bool → KindWord → Bool → Taken → Type 0
HoldsOn v w f owner want marked k own t =
    (b : PortValue) → Enters b v f owner want marked (stamp_by marked k) (progress_of k) own → TakesAs b w f owner want t

-- what is known where a frame is done: it does not wait
abbrev pub IsDone : Taken → Type 0
IsDone (Waiting own stamp stop) = ⊥
IsDone _ = Unit {0}
