-- Entries as plain functions of the words: what is answered and left on a board that tells all words.
use Rattle.std.specs.Prelude.{◌≡◌, ℕ, ◌&&◌, nat_lt, Bool, true, false, Option, Some, None, Result, Ok, Err}
use Rattle.xp_words.specs.Entries.{demand_at}
use Rattle.xp_words.specs.KindWords.{kind_fields}
use Rattle.xp_words.specs.Machine.{Machine}
use Rattle.xp_words.specs.declared.entry.Demand.{Demand}
use Rattle.xp_words.specs.declared.entry.Demand.TheVariants as demands
use Rattle.xp_words.specs.declared.kind.KindWord.{KindWord}
use Rattle.xp_words.specs.declared.kind.PageType.{PageType}
use Rattle.xp_words.specs.declared.place.Place.TheVariants.{Cell, Kind, Refs}
use Rattle.xp_words.specs.declared.reply.Pause.TheVariants.{Flush}
use Rattle.xp_words.specs.declared.reply.Refusal.{Refusal}
use Rattle.xp_words.specs.declared.reply.Refusal.TheVariants as refusals
use Rattle.xp_words.specs.declared.reply.Stop.{Stop}
use Rattle.xp_words.specs.declared.reply.Stop.TheVariants.{Refused, Paused}
use Rattle.xp_board.specs.Readings.{is_live_word}
use Rattle.xp_board.specs.Told.{PortValue, is_telling, told_word}
use Rattle.step_maker.specs.Plain.{Words, Leaves}
use Rattle.step_maker.specs.Twins.{Alike}
use Rattle.frame_words.specs.Plain.{got, put, refer}
use Rattle.kind_words.specs.Kinds.{dead_kind, partial_kind}
use Rattle.frame_types.specs.Plain.{IsTakenBy, is_own, is_read_first, is_refused, less_kept, set_kind, taken, type_stop, type_waits}
use Rattle.frame_types.specs.Standing.{standing_of}
use Rattle.frame_types.specs.declared.taking.Taken.{Taken}
use Rattle.frame_types.specs.declared.taking.Taken.TheVariants as types
use Rattle.table_entries.specs.declared.entries.Entered.{Entered}
use Rattle.table_entries.specs.declared.entries.Entered.TheVariants.{Recorded, Opened, Unsettled}
use Rattle.table_entries.specs.declared.resuming.Resumed.{Resumed}
use Rattle.table_entries.specs.declared.resuming.Resumed.TheVariants as again

-- the kind word of frame g, and whether a type is taken of it that way
abbrev pub kind_of : Words → ℕ → KindWord
kind_of m g = kind_fields (m (Kind g))

abbrev pub IsTakenOf : Words → ℕ → PageType → Taken → Type 0
IsTakenOf m g t way = (type_stop g t (m (Kind g)) ≡ None) × IsTakenBy t (kind_of m g) (standing_of (kind_of m g) t) way

abbrev pub is_own_of : Words → ℕ → PageType → Bool
is_own_of m g t = is_own (kind_of m g) (standing_of (kind_of m g) t)

-- ---- a frame that waits for a flush which is not to be had
-- partial with its mark, under the type count of the entry that asks it
abbrev pub left_partial : ℕ → PageType → Words → Words
left_partial g t m = set_kind g (partial_kind t false true 0 0) (less_kept g (kind_of m g) (standing_of (kind_of m g) t) m)

-- as another holder left it, and the reference given back
abbrev pub left_shared : ℕ → PageType → Words → Words
left_shared g t m = put g (set_kind g (partial_kind t false true 0 0) m)

-- dead with its mark, and the reference given back
abbrev pub left_dead : ℕ → PageType → Words → Words
left_dead g t m = put g (set_kind g (dead_kind t true 0) (less_kept g (kind_of m g) (standing_of (kind_of m g) t) m))

-- where the clock is at its last value, by whether the type count is the own one
abbrev pub WaitsPlainly : PortValue → Words → ℕ → PageType → Bool → Type 0
WaitsPlainly w m g t true = (is_read_first t ≡ false) × Alike (told_word w) (left_dead g t m)
WaitsPlainly w m g t false = Alike (told_word w) (left_shared g t m)

-- ---- the next entry, where it asks a type; m: the words with the reference taken
-- Counted, live at once, or opened; or it waits. One that another holder left partial is so again; a frame without entries is
-- dead where the clock is at its last value; each other is recorded as it waits.
abbrev pub TypesPlainly : PortValue → Words → ℕ → PageType → Result Entered Stop → Type 0
TypesPlainly w m g t (Ok Recorded) = IsTakenOf m g t types.Counted × Alike (told_word w) (taken g t types.Counted m)
TypesPlainly w m g t (Ok (Opened f progress own)) = (f ≡ g) × IsTakenOf m g t (types.InWork progress own) × Alike (told_word w) (taken g t (types.InWork progress own) m)
TypesPlainly w m g t (Ok (Unsettled stop)) = (type_waits t (m (Kind g)) ≡ true) × (is_own_of m g t ≡ true) × (is_refused stop ≡ true → is_read_first t ≡ true) × Alike (told_word w) (left_partial g t m)
TypesPlainly w m g t (Err (Refused (refusals.Clock x))) = (type_waits t (m (Kind g)) ≡ true) × WaitsPlainly w m g t (is_own_of m g t)
TypesPlainly w m g t (Err (Paused (Flush u y x))) = (type_waits t (m (Kind g)) ≡ true) × (is_own_of m g t ≡ false) × Alike (told_word w) (left_shared g t m)
TypesPlainly w m g t (Err e) = (type_stop g t (m (Kind g)) ≡ Some e) × Leaves w (put g m)

-- ---- the next entry; m: the words before
abbrev pub RefersPlainly : PortValue → Words → Result Entered Stop → Option Refusal → Words → Type 0
RefersPlainly w m answer (Some x) done = (answer ≡ Err (Refused x)) × Leaves w m
RefersPlainly w m answer None done = (answer ≡ Ok Recorded) × Leaves w done

abbrev pub TypedPlainly : PortValue → Words → ℕ → PageType → Result Entered Stop → Option Refusal → Type 0
TypedPlainly w m g t answer (Some x) = (answer ≡ Err (Refused x)) × Leaves w m
TypedPlainly w m g t answer None = TypesPlainly w (got g m) g t answer

abbrev pub EntersPlainly : Machine → PortValue → Words → ℕ → ℕ → ℕ → Result Entered Stop → Demand → Type 0
EntersPlainly n w m f i owner answer demands.Nothing = (answer ≡ Ok Recorded) × Leaves w m
EntersPlainly n w m f i owner answer demands.Bad = (answer ≡ Err (Refused (refusals.Reserved f i (m (Cell f i))))) × Leaves w m
EntersPlainly n w m f i owner answer (demands.Read g) = RefersPlainly w m answer (refer n owner g (m (Refs g))) (got g m)
EntersPlainly n w m f i owner answer (demands.Typed g t) = TypedPlainly w m g t answer (refer n owner g (m (Refs g)))

-- by what the entry asks as it stands
abbrev pub TwinEntry : PortValue → PortValue → ℕ → PageType → ℕ → ℕ → Result Entered Stop → Type 0
TwinEntry v w f t i owner answer =
    is_telling v ≡ true → EntersPlainly v.post.machine w (told_word v) f i owner answer (demand_at t i (told_word v (Cell f i)))

-- ---- the last recorded entry again
-- m: the words with the reference taken
abbrev pub TypesAgain : PortValue → Words → ℕ → PageType → Result Resumed Stop → Type 0
TypesAgain w m g t (Ok again.Settled) = ⊥
TypesAgain w m g t (Ok (again.Taken f)) = (f ≡ g) × IsTakenOf m g t types.Counted × Alike (told_word w) (taken g t types.Counted m)
TypesAgain w m g t (Ok (again.Opened f progress)) = (f ≡ g) × IsTakenOf m g t (types.InWork progress false) × Alike (told_word w) (taken g t (types.InWork progress false) m)
TypesAgain w m g t (Ok (again.Waiting f stamp stop)) = (f ≡ g) × IsTakenOf m g t (types.Waiting false stamp stop) × Alike (told_word w) (taken g t (types.Waiting false stamp stop) m)
TypesAgain w m g t (Err e) = (type_stop g t (m (Kind g)) ≡ Some e) × Leaves w (put g m)

-- it stands where its frame is live, or where it asks no type; else its frame is taken again
abbrev pub AgainBy : PortValue → Words → ℕ → PageType → Result Resumed Stop → Option Refusal → Type 0
AgainBy w m g t answer (Some x) = (answer ≡ Err (Refused x)) × Leaves w m
AgainBy w m g t answer None = TypesAgain w (got g m) g t answer

abbrev pub AgainWhere : Machine → PortValue → Words → ℕ → PageType → ℕ → Result Resumed Stop → Bool → Type 0
AgainWhere n w m g t owner answer true = (answer ≡ Ok again.Settled) × Leaves w m
AgainWhere n w m g t owner answer false = AgainBy w m g t answer (refer n owner g (m (Refs g)))

abbrev pub ResumesPlainly : Machine → PortValue → Words → ℕ → Result Resumed Stop → Demand → Type 0
ResumesPlainly n w m owner answer (demands.Typed g t) = AgainWhere n w m g t owner answer (nat_lt g n.frames && is_live_word (m (Kind g)))
ResumesPlainly n w m owner answer _ = (answer ≡ Ok again.Settled) × Leaves w m

abbrev pub TwinResume : PortValue → PortValue → ℕ → PageType → ℕ → ℕ → Result Resumed Stop → Type 0
TwinResume v w f t i owner answer =
    is_telling v ≡ true → ResumesPlainly v.post.machine w (told_word v) owner answer (demand_at t i (told_word v (Cell f i)))
