-- The last recorded entry by its steps, on any board: which answer and which further steps there are, by the words that were found.
use Rattle.std.specs.Prelude.{◌≡◌, ◌≢◌, ◌==◌, ◌&&◌, ◌<◌, nat_lt, ℕ, Bool, true, false, List, Result, Ok, Err}
use Rattle.xp_words.specs.Entries.{demand_at}
use Rattle.xp_words.specs.KindWords.{kind_fields}
use Rattle.xp_words.specs.Machine.{Machine}
use Rattle.xp_words.specs.PageTypes.{is_table}
use Rattle.xp_words.specs.Places.{number, sizes_of}
use Rattle.xp_words.specs.declared.entry.Demand.{Demand}
use Rattle.xp_words.specs.declared.entry.Demand.TheVariants as demands
use Rattle.xp_words.specs.declared.kind.KindWord.{KindWord}
use Rattle.xp_words.specs.declared.kind.PageType.{PageType}
use Rattle.xp_words.specs.declared.place.Place.TheVariants.{Clock, Kind, Refs}
use Rattle.xp_words.specs.declared.reply.Pause.TheVariants.{Busy, Lost}
use Rattle.xp_words.specs.declared.reply.Stop.{Stop}
use Rattle.xp_words.specs.declared.reply.Stop.TheVariants.{Paused}
use Rattle.xp_board.specs.declared.step.Act.TheVariants.{Add}
use Rattle.xp_board.specs.KindSteps.{Form, InWork, Live, Partial, Dead, form_of, resumed_kind}
use Rattle.xp_board.specs.RefSteps.{one_down}
use Rattle.xp_board.specs.Told.{PortValue}
use Rattle.step_maker.specs.Visits.{Visit, visit, Does, Nothing, Only, Then}
use Rattle.frame_words.specs.Freeing.{PutBy}
use Rattle.kind_words.specs.Kinds.{dead_kind}
use Rattle.frame_types.specs.Found.{DropsBy, StoresKind, saw_kind, swaps_kind}
use Rattle.table_words.specs.Entries.{ShedsAt, sheds_at}
use Rattle.table_entries.specs.Found.{saw_cell}
use Rattle.table_releases.specs.declared.entries.Released.{Released}
use Rattle.table_releases.specs.declared.entries.Released.TheVariants.{Given, Opened}

-- the table and the number of entries that are left recorded: f, i
-- ---- a live frame, whose reference word was looked at: its type count goes down
-- of a table the last type count leaves it closing in the hand, with all entries recorded; else the reference is given back
abbrev pub LowersTable : ℕ → Result Released Stop → Bool → List Visit → Type 0
LowersTable g answer true vs = (answer ≡ Ok (Opened g 512 true)) × Nothing vs
LowersTable g answer false vs = (answer ≡ Ok Given) × PutBy g vs

abbrev pub LiveBy : ℕ → PageType → Result Released Stop → Bool → List Visit → Type 0
LiveBy g t answer true vs = (x : ℕ) × Then (Only (visit (Kind g) (Add one_down) x)) (λ ls. LowersTable g answer ((kind_fields x).number == 1) ls) vs
LiveBy g t answer false vs = (answer ≡ Ok Given) × DropsBy g t vs

-- ---- a partial frame that came into the own works
-- A table of which entries are recorded is to be released first, with those. Each other frame is left dead, with its mark as it was.
abbrev pub has_recorded : PageType → KindWord → Bool
has_recorded t k = is_table t && nat_lt 0 k.progress

abbrev pub DiesShed : ℕ → ℕ → ℕ → PageType → Bool → List Visit → Type 0
DiesShed f i g t marked vs = (clock : ℕ) × Then (Only (sheds_at Clock f i clock)) (Then (StoresKind g (dead_kind t marked clock)) (PutBy g)) vs

abbrev pub ComesBy : ℕ → ℕ → ℕ → PageType → ℕ → Result Released Stop → Bool → List Visit → Type 0
ComesBy f i g t x answer true vs = (answer ≡ Ok (Opened g (kind_fields x).progress false)) × (0 < (kind_fields x).progress) × ShedsAt (Refs g) f i vs
ComesBy f i g t x answer false vs = (answer ≡ Ok Given) × DiesShed f i g t (kind_fields x).unflushed vs

-- by one exchange, which found another word or the one that was expected
abbrev pub PartialBy : Machine → ℕ → ℕ → ℕ → PageType → ℕ → Result Released Stop → List Visit → Type 0
PartialBy n f i g t x (Err (Paused (Lost place expected found))) vs =
    (place ≡ number (sizes_of n) (Kind g)) × (expected ≡ x) × (found ≢ x) × Only (swaps_kind g x (resumed_kind (kind_fields x)) found) vs
PartialBy n f i g t x answer vs = Then (Only (swaps_kind g x (resumed_kind (kind_fields x)) x)) (λ cs. ComesBy f i g t x answer (has_recorded t (kind_fields x)) cs) vs

-- ---- by the kind word that was found of the frame
abbrev pub FormBy : Machine → ℕ → ℕ → ℕ → PageType → ℕ → Result Released Stop → Form → List Visit → Type 0
FormBy n f i g t x answer Live vs = Then (ShedsAt (Refs g) f i) (λ ls. LiveBy g t answer (is_table t) ls) vs
FormBy n f i g t x answer Partial vs = PartialBy n f i g t x answer vs
FormBy n f i g t x answer InWork vs = (answer ≡ Err (Paused (Busy g x))) × Nothing vs
FormBy n f i g t x answer Dead vs = (answer ≡ Err (Paused (Busy g x))) × Nothing vs

abbrev pub TypedReleased : Machine → ℕ → ℕ → ℕ → PageType → Result Released Stop → List Visit → Type 0
TypedReleased n f i g t answer vs = (x : ℕ) × Then (Only (saw_kind g x)) (λ ks. FormBy n f i g t x answer (form_of (kind_fields x)) ks) vs

-- ---- by what the entry asks
abbrev pub ReleasesBy : Machine → ℕ → ℕ → Result Released Stop → Demand → List Visit → Type 0
ReleasesBy n f i answer demands.Nothing vs = (answer ≡ Ok Given) × ShedsAt Clock f i vs
ReleasesBy n f i answer demands.Bad vs = (answer ≡ Ok Given) × ShedsAt Clock f i vs
ReleasesBy n f i answer (demands.Read g) vs = (answer ≡ Ok Given) × Then (ShedsAt Clock f i) (PutBy g) vs
ReleasesBy n f i answer (demands.Typed g t) vs = TypedReleased n f i g t answer vs

abbrev pub ReleasedBy : Machine → ℕ → ℕ → PageType → Result Released Stop → List Visit → Type 0
ReleasedBy n f i t answer vs = (word : ℕ) × Then (Only (saw_cell f i word)) (λ rs. ReleasesBy n f i answer (demand_at t i word) rs) vs

abbrev pub ReleasesFound : PortValue → PortValue → ℕ → ℕ → PageType → Result Released Stop → Type 0
ReleasesFound v w f i t answer = Does v w (λ vs. ReleasedBy v.post.machine f i t answer vs)
