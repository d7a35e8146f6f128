-- Types as plain functions of the words: whether they are to be had, and what they leave on a board that tells all words.
use Rattle.std.specs.Prelude.{◌≡◌, ◌==◌, ◌||◌, ℕ, if◌then◌else◌, Bool, true, false, Option, Some, None, Result, Ok, Err}
use Rattle.xp_words.specs.KindWords.{kind_fields, kind_write}
use Rattle.xp_words.specs.PageTypes.{is_table, type_number}
use Rattle.xp_words.specs.declared.kind.KindWord.{KindWord}
use Rattle.xp_words.specs.declared.kind.PageType.{PageType}
use Rattle.xp_words.specs.declared.kind.PageType.TheVariants.{Writable}
use Rattle.xp_words.specs.declared.place.Place.TheVariants.{Kind}
use Rattle.xp_words.specs.declared.reply.Pause.TheVariants.{Busy, Flush}
use Rattle.xp_words.specs.declared.reply.Refusal.TheVariants as refusals
use Rattle.xp_words.specs.declared.reply.Stop.{Stop}
use Rattle.xp_words.specs.declared.reply.Stop.TheVariants.{Refused, Paused}
use Rattle.xp_board.specs.declared.step.Act.TheVariants.{Store, Add}
use Rattle.xp_board.specs.KindSteps.{begun_kind, resumed_kind, raised_kind, is_stale}
use Rattle.xp_board.specs.RefSteps.{one_down}
use Rattle.xp_board.specs.Told.{PortValue, is_telling, told_word}
use Rattle.step_maker.specs.Plain.{Words, change, Leaves}
use Rattle.step_maker.specs.Twins.{Alike}
use Rattle.frame_words.specs.Plain.{put, stamp_now}
use Rattle.kind_words.specs.Kinds.{live_kind, dead_kind, partial_kind, work_kind}
use Rattle.frame_types.specs.Standing.{standing_of}
use Rattle.frame_types.specs.Taking.{progress_of}
use Rattle.frame_types.specs.declared.standing.Standing.{Standing}
use Rattle.frame_types.specs.declared.standing.Standing.TheVariants as stands
use Rattle.frame_types.specs.declared.taking.Taken.{Taken}
use Rattle.frame_types.specs.declared.taking.Taken.TheVariants.{Counted, InWork, Waiting}

-- why the type is not to be had, by the kind word alone
abbrev pub stop_by : ℕ → PageType → ℕ → Standing → Option Stop
stop_by f want w stands.Other = Some (Refused (refusals.OtherType f want w))
stop_by f want w stands.Busy = Some (Paused (Busy f w))
stop_by f want w _ = None

abbrev pub type_stop : ℕ → PageType → ℕ → Option Stop
type_stop f want w = stop_by f want w (standing_of (kind_fields w) want)

-- whether it waits for flushes
abbrev pub waits_by : KindWord → PageType → Standing → Bool
waits_by k want stands.Dead = is_stale k want
waits_by k want stands.Partial = k.unflushed
waits_by k want _ = false

abbrev pub type_waits : PageType → ℕ → Bool
type_waits want w = waits_by (kind_fields w) want (standing_of (kind_fields w) want)

-- ordinary memory is live at once; the entries of a table, and the words of a descriptor page, are read first
abbrev pub is_read_first : PageType → Bool
is_read_first want = is_table want || (type_number want == 5)

-- whether the type count is the own one: not where another holder left the frame partial and holds it still
abbrev pub is_own : KindWord → Standing → Bool
is_own k stands.Partial = k.kept
is_own k _ = true

-- the word of a frame that comes into work, and without its mark
abbrev pub work_by : KindWord → PageType → Standing → KindWord
work_by k want stands.Partial = resumed_kind k
work_by k want _ = begun_kind k want

abbrev pub work_unmarked : KindWord → KindWord
work_unmarked k = if k.unflushed then record k { unflushed = false; number = 0 } else k

-- of a reference that stood in the frame's own mark, the one in hand is one too many
abbrev pub less_kept : ℕ → KindWord → Standing → Words → Words
less_kept f k stands.Partial m = if k.kept then put f m else m
less_kept f k _ m = m

abbrev pub set_kind : ℕ → KindWord → Words → Words
set_kind f k m = change (Store (kind_write k)) (Kind f) m

-- the words where the type was taken: counted, live, in work, or waiting
abbrev pub taken_by : ℕ → PageType → KindWord → Standing → Taken → Words → Words
taken_by f want k stands.Counted t m = set_kind f (raised_kind k) m
taken_by f want k s Counted m = set_kind f (live_kind want (if is_own k s then 1 else 2)) (less_kept f k s m)
taken_by f want k s (InWork progress own) m = set_kind f (work_unmarked (work_by k want s)) (less_kept f k s m)
taken_by f want k s (Waiting own stamp stop) m = set_kind f (work_by k want s) (less_kept f k s m)

abbrev pub taken : ℕ → PageType → Taken → Words → Words
taken f want t m = taken_by f want (kind_fields (m (Kind f))) (standing_of (kind_fields (m (Kind f))) want) t m

-- which way: counted; live at once, or in work with what its word says recorded; waiting only where it waits
abbrev pub IsTakenBy : PageType → KindWord → Standing → Taken → Type 0
IsTakenBy want k stands.Counted t = t ≡ Counted
IsTakenBy want k s Counted = is_read_first want ≡ false
IsTakenBy want k s (InWork progress own) = (is_read_first want ≡ true) × (own ≡ is_own k s) × (progress ≡ progress_of k)
IsTakenBy want k s (Waiting own stamp stop) = (waits_by k want s ≡ true) × (own ≡ is_own k s)

-- On a board that tells all words the type is taken just so, or not to be had just so, by the kind word before.
abbrev pub TakesPlainly : PortValue → PortValue → ℕ → PageType → Result Taken Stop → Type 0
TakesPlainly v w f want (Ok t) =
    (type_stop f want (told_word v (Kind f)) ≡ None) × IsTakenBy want (kind_fields (told_word v (Kind f))) (standing_of (kind_fields (told_word v (Kind f))) want) t
    × Alike (told_word w) (taken f want t (told_word v))
TakesPlainly v w f want (Err e) = (type_stop f want (told_word v (Kind f)) ≡ Some e) × Leaves w (told_word v)

abbrev pub TwinTake : PortValue → PortValue → ℕ → PageType → Result Taken Stop → Type 0
TwinTake v w f want answer = is_telling v ≡ true → TakesPlainly v w f want answer

-- ---- a frame that came into work
-- Behind the flush, or where none is awaited, the frame is live or in work without its mark; else it waits.
abbrev pub GoesPlainly : PortValue → PortValue → ℕ → PageType → Bool → Bool → ℕ → Taken → Type 0
GoesPlainly v w f want marked own recorded Counted = (is_read_first want ≡ false) × Alike (told_word w) (set_kind f (live_kind want (if own then 1 else 2)) (told_word v))
GoesPlainly v w f want marked own recorded (InWork progress mine) = (is_read_first want ≡ true) × (mine ≡ own) × (progress ≡ recorded) × Alike (told_word w) (set_kind f (work_kind want false 0) (told_word v))
GoesPlainly v w f want marked own recorded (Waiting mine stamp stop) = (marked ≡ true) × (mine ≡ own) × Alike (told_word w) (told_word v)

abbrev pub TwinOn : PortValue → PortValue → ℕ → PageType → Bool → Bool → ℕ → Taken → Type 0
TwinOn v w f want marked own recorded t =
    is_telling v ≡ true → (marked ≡ false → told_word v (Kind f) ≡ kind_write (work_kind want false 0)) → GoesPlainly v w f want marked own recorded t

-- ---- ordinary memory
-- the words where the flush was not to be had: refused, an own frame is dead with its mark; paused, it is partial with the
-- reference in its `kept` mark; and one that another holder left partial is so again, and the reference given back
abbrev pub given_up_by : ℕ → KindWord → Standing → Bool → Words → Words
given_up_by f k s true m =
    if is_own k s then put f (set_kind f (dead_kind Writable true 0) (less_kept f k s m)) else put f (set_kind f (partial_kind Writable false true 0 0) m)
given_up_by f k s false m =
    if is_own k s then set_kind f (partial_kind Writable true true 0 0) (less_kept f k s m) else put f (set_kind f (partial_kind Writable false true 0 0) m)

abbrev pub given_up : ℕ → Bool → Words → Words
given_up f refused m = given_up_by f (kind_fields (m (Kind f))) (standing_of (kind_fields (m (Kind f))) Writable) refused m

abbrev pub TakesMemory : PortValue → PortValue → ℕ → Result (Unit {0}) Stop → Type 0
TakesMemory v w f (Ok done) = (type_stop f Writable (told_word v (Kind f)) ≡ None) × Alike (told_word w) (taken f Writable Counted (told_word v))
TakesMemory v w f (Err (Refused (refusals.Clock x))) = (type_waits Writable (told_word v (Kind f)) ≡ true) × Alike (told_word w) (given_up f true (told_word v))
TakesMemory v w f (Err (Paused (Flush u t x))) = (type_waits Writable (told_word v (Kind f)) ≡ true) × Alike (told_word w) (given_up f false (told_word v))
TakesMemory v w f (Err e) = (type_stop f Writable (told_word v (Kind f)) ≡ Some e) × Leaves w (put f (told_word v))

abbrev pub TwinMemory : PortValue → PortValue → ℕ → Result (Unit {0}) Stop → Type 0
TwinMemory v w f answer = is_telling v ≡ true → TakesMemory v w f answer

-- a type is given back of a frame that holds no entries, and the reference with it
abbrev pub dropped_plain : ℕ → PageType → Words → Words
dropped_plain f kind m =
    put f (if (kind_fields (m (Kind f))).number == 1 then set_kind f (dead_kind kind false (stamp_now m)) (change (Add one_down) (Kind f) m) else change (Add one_down) (Kind f) m)

-- a frame that waits is given up: the words after that
abbrev pub is_refused : Stop → Bool
is_refused (Refused x) = true
is_refused (Paused x) = false

abbrev pub left_waiting : ℕ → Bool → Bool → ℕ → Words → Words
left_waiting f true true stamp m = put f (set_kind f (dead_kind Writable true (stamp_now m)) m)
left_waiting f true false stamp m = set_kind f (partial_kind Writable true true 0 stamp) m
left_waiting f false refused stamp m = put f (set_kind f (partial_kind Writable false true 0 stamp) m)

abbrev pub TwinGiveUp : PortValue → PortValue → ℕ → Bool → ℕ → Stop → Type 0
TwinGiveUp v w f own stamp stop = is_telling v ≡ true → Leaves w (left_waiting f own (is_refused stop) stamp (told_word v))
