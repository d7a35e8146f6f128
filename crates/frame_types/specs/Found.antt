-- The calls by their steps, on any board: which answer and which further steps there are, by the words that were found.
use Rattle.std.specs.Prelude.{◌≡◌, ◌≢◌, ◌==◌, ℕ, if◌then◌else◌, Bool, true, false, List, Some, None, Result, Ok, Err}
use Rattle.xp_words.specs.KindWords.{kind_fields, kind_write}
use Rattle.xp_words.specs.Machine.{Machine}
use Rattle.xp_words.specs.Places.{number, sizes_of}
use Rattle.xp_words.specs.declared.kind.KindWord.{KindWord}
use Rattle.xp_words.specs.declared.kind.PageType.{PageType}
use Rattle.xp_words.specs.declared.place.Place.TheVariants.{Clock, Kind}
use Rattle.xp_words.specs.declared.reply.Pause.TheVariants.{Lost}
use Rattle.xp_words.specs.declared.reply.Stop.{Stop}
use Rattle.xp_words.specs.declared.reply.Stop.TheVariants.{Paused}
use Rattle.xp_board.specs.declared.step.Act.TheVariants.{Add, Cas, Load, Store}
use Rattle.xp_board.specs.KindSteps.{raised_kind}
use Rattle.xp_board.specs.RefSteps.{one_down}
use Rattle.xp_board.specs.Told.{Post, PortValue}
use Rattle.step_maker.specs.Reasons.{OfOwner}
use Rattle.step_maker.specs.Visits.{Visit, visit, Does, Nothing, Only, Then, Where}
use Rattle.flush_waits.specs.Listing.{WaitedFor}
use Rattle.frame_words.specs.Freeing.{PutBy}
use Rattle.kind_words.specs.Kinds.{dead_kind, live_kind, partial_kind, work_kind}
use Rattle.frame_types.specs.Plain.{IsTakenBy, is_own, is_read_first, type_stop, waits_by, work_by}
use Rattle.frame_types.specs.Standing.{standing_of}
use Rattle.frame_types.specs.declared.standing.Standing.{Standing}
use Rattle.frame_types.specs.declared.standing.Standing.TheVariants as stands
use Rattle.frame_types.specs.declared.taking.Taken.{Taken}
use Rattle.frame_types.specs.declared.taking.Taken.TheVariants.{Counted, InWork, Waiting}

-- ---- steps at a kind word
-- a look; an exchange, which is done where it finds what was expected; a store, whatever it finds
abbrev pub saw_kind : ℕ → ℕ → Visit
saw_kind f x = visit (Kind f) Load x

abbrev pub swaps_kind : ℕ → ℕ → KindWord → ℕ → Visit
swaps_kind f x k found = visit (Kind f) (Cas x (kind_write k)) found

abbrev pub StoresKind : ℕ → KindWord → List Visit → Type 0
StoresKind f k vs = (found : ℕ) × Only (visit (Kind f) (Store (kind_write k)) found) vs

-- the clock is loaded, and the frame left dead with that stamp
abbrev pub Dies : ℕ → PageType → Bool → List Visit → Type 0
Dies f want marked vs = (clock : ℕ) × Then (Only (visit Clock Load clock)) (StoresKind f (dead_kind want marked clock)) vs

-- ---- a frame that came into work goes on
-- `marked`: it waits for flushes past that stamp; `own`: its type count is in hand; `recorded`: so many of its entries are recorded
abbrev pub IsWayOn : PageType → Bool → Bool → ℕ → Taken → Type 0
IsWayOn want marked own recorded Counted = is_read_first want ≡ false
IsWayOn want marked own recorded (InWork progress mine) = (is_read_first want ≡ true) × (mine ≡ own) × (progress ≡ recorded)
IsWayOn want marked own recorded (Waiting mine stamp stop) = (marked ≡ true) × (mine ≡ own)

-- one wait for the owner's frame, where it is marked
abbrev pub WaitsOf : Post → ℕ → Bool → ℕ → Taken → List Visit → Type 0
WaitsOf q owner true stamp (Waiting own awaited stop) vs = (awaited ≡ stamp) × WaitedFor q (OfOwner owner) stamp (Err stop) vs
WaitsOf q owner true stamp _ vs = WaitedFor q (OfOwner owner) stamp (Ok tt) vs
WaitsOf q owner false stamp t vs = Nothing vs

-- ordinary memory is live at once; what is read first loses its mark, where it has one; what waits stays as it came into work
abbrev pub EndsBy : ℕ → PageType → Bool → Bool → Taken → List Visit → Type 0
EndsBy f want marked own Counted vs = StoresKind f (live_kind want (if own then 1 else 2)) vs
EndsBy f want marked own (InWork progress mine) vs = Where marked (StoresKind f (work_kind want false 0)) vs
EndsBy f want marked own (Waiting mine stamp stop) vs = Nothing vs

abbrev pub GoesBy : Post → ℕ → ℕ → PageType → Bool → ℕ → Bool → Taken → List Visit → Type 0
GoesBy q f owner want marked stamp own t vs = Then (λ ws. WaitsOf q owner marked stamp t ws) (λ es. EndsBy f want marked own t es) vs

abbrev pub Proceeds : PortValue → PortValue → ℕ → ℕ → PageType → Bool → ℕ → Bool → ℕ → Taken → Type 0
Proceeds v w f owner want marked stamp own recorded t = IsWayOn want marked own recorded t × Does v w (λ vs. GoesBy v.post f owner want marked stamp own t vs)

abbrev pub Finishes : PortValue → PortValue → ℕ → PageType → Bool → Bool → ℕ → Taken → Type 0
Finishes v w f want marked own recorded t = IsWayOn want marked own recorded t × Does v w (λ vs. EndsBy f want marked own t vs)

-- ---- a type is taken
-- the reference in hand is given back where the frame's own mark had one
abbrev pub is_kept_by : KindWord → Standing → Bool
is_kept_by k stands.Partial = k.kept
is_kept_by k _ = false

-- the word that an exchange makes of the one that was found
abbrev pub next_kind : KindWord → PageType → Standing → KindWord
next_kind k want stands.Counted = raised_kind k
next_kind k want s = work_by k want s

-- Behind the look: one type count more; or the frame comes into work, and goes on.
abbrev pub TakesBy : Post → ℕ → ℕ → PageType → ℕ → Standing → Taken → List Visit → Type 0
TakesBy q f owner want x stands.Counted t vs = Only (swaps_kind f x (next_kind (kind_fields x) want stands.Counted) x) vs
TakesBy q f owner want x s t vs =
    Then (Only (swaps_kind f x (next_kind (kind_fields x) want s) x))
    (Then (Where (is_kept_by (kind_fields x) s) (PutBy f)) (λ gs. GoesBy q f owner want (waits_by (kind_fields x) want s) (kind_fields x).number (is_own (kind_fields x) s) t gs)) vs

-- the type was taken that way of the word that the look found
pub record TakesOf (q : Post) (f owner : ℕ) (want : PageType) (t : Taken) (vs : List Visit) : Type 0 where
  pub word : ℕ
  pub free : type_stop f want word ≡ None
  pub way : IsTakenBy want (kind_fields word) (standing_of (kind_fields word) want) t
  pub steps : Then (Only (saw_kind f word)) (λ ts. TakesBy q f owner want word (standing_of (kind_fields word) want) t ts) vs

-- the exchange found another word
abbrev pub LosesBy : Machine → ℕ → PageType → ℕ → ℕ → ℕ → List Visit → Type 0
LosesBy n f want place expected found vs =
    (place ≡ number (sizes_of n) (Kind f)) × (type_stop f want expected ≡ None) × (found ≢ expected)
    × Then (Only (saw_kind f expected)) (Only (swaps_kind f expected (next_kind (kind_fields expected) want (standing_of (kind_fields expected) want)) found)) vs

-- it is not to be had, by the word that the one look found
abbrev pub StopsBy : ℕ → PageType → Stop → List Visit → Type 0
StopsBy f want e vs = (word : ℕ) × (type_stop f want word ≡ Some e) × Only (saw_kind f word) vs

abbrev pub TypeBy : Post → ℕ → ℕ → PageType → Result Taken Stop → List Visit → Type 0
TypeBy q f owner want (Ok t) vs = TakesOf q f owner want t vs
TypeBy q f owner want (Err (Paused (Lost place expected found))) vs = LosesBy q.machine f want place expected found vs
TypeBy q f owner want (Err e) vs = StopsBy f want e vs

abbrev pub TakesFound : PortValue → PortValue → ℕ → ℕ → PageType → Result Taken Stop → Type 0
TakesFound v w f owner want answer = Does v w (λ vs. TypeBy v.post f owner want answer vs)

-- ---- a frame that waits is left
-- partial as another holder left it, and the reference given back
abbrev pub SharedBy : ℕ → PageType → ℕ → List Visit → Type 0
SharedBy f want stamp vs = Then (StoresKind f (partial_kind want false true 0 stamp)) (PutBy f) vs

-- dead with a clock value that was found, and the reference given back
abbrev pub DeadBy : ℕ → PageType → List Visit → Type 0
DeadBy f want vs = Then (Dies f want true) (PutBy f) vs

-- ---- a type is given back of a frame that holds no entries
-- behind the last type count it is dead with a clock value that was found
abbrev pub DropsBy : ℕ → PageType → List Visit → Type 0
DropsBy f kind vs =
    (x : ℕ) × Then (Only (visit (Kind f) (Add one_down) x)) (Then (Where ((kind_fields x).number == 1) (Dies f kind false)) (PutBy f)) vs

abbrev pub DropsPlain : PortValue → PortValue → ℕ → PageType → Type 0
DropsPlain v w f kind = Does v w (DropsBy f kind)
