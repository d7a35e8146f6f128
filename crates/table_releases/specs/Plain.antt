-- Releases as plain functions of the words: what is answered and left on a board that tells all words.
use Rattle.std.specs.Prelude.{◌≡◌, ◌==◌, ◌<◌, ℕ, Bool, true, false, Result, Ok, Err}
use Rattle.xp_words.specs.Entries.{demand_at}
use Rattle.xp_words.specs.KindWords.{kind_fields}
use Rattle.xp_words.specs.PageTypes.{is_table}
use Rattle.xp_words.specs.declared.entry.Demand.{Demand}
use Rattle.xp_words.specs.declared.entry.Demand.TheVariants as demands
use Rattle.xp_words.specs.declared.kind.PageType.{PageType}
use Rattle.xp_words.specs.declared.place.Place.TheVariants.{Cell, Kind}
use Rattle.xp_words.specs.declared.reply.Pause.TheVariants.{Busy}
use Rattle.xp_words.specs.declared.reply.Stop.{Stop}
use Rattle.xp_words.specs.declared.reply.Stop.TheVariants.{Paused}
use Rattle.xp_board.specs.declared.step.Act.TheVariants.{Add}
use Rattle.xp_board.specs.KindSteps.{Form, InWork, Live, Partial, Dead, form_of, resumed_kind}
use Rattle.xp_board.specs.RefSteps.{one_down}
use Rattle.xp_board.specs.Told.{PortValue, is_telling, told_word}
use Rattle.step_maker.specs.Plain.{Leaves, Words, change}
use Rattle.frame_words.specs.Plain.{put, stamp_now}
use Rattle.kind_words.specs.Kinds.{dead_kind}
use Rattle.frame_types.specs.Plain.{dropped_plain, set_kind}
use Rattle.table_releases.specs.Found.{has_recorded}
use Rattle.table_releases.specs.declared.entries.Released.{Released}
use Rattle.table_releases.specs.declared.entries.Released.TheVariants.{Given, Opened}

-- one type count less
abbrev pub lowered_type : ℕ → Words → Words
lowered_type g m = change (Add one_down) (Kind g) m

-- in work again
abbrev pub resumed_words : ℕ → Words → Words
resumed_words g m = set_kind g (resumed_kind (kind_fields (m (Kind g)))) m

-- a live table, by whether its last type count is given back
abbrev pub LowersPlainly : PortValue → Words → ℕ → Result Released Stop → Bool → Type 0
LowersPlainly w m g answer true = (answer ≡ Ok (Opened g 512 true)) × Leaves w (lowered_type g m)
LowersPlainly w m g answer false = (answer ≡ Ok Given) × Leaves w (put g (lowered_type g m))

-- a live frame, by whether it is a table; a partial one, by whether it is one of which entries are recorded
abbrev pub LivePlainly : PortValue → Words → ℕ → PageType → Result Released Stop → Bool → Type 0
LivePlainly w m g t answer true = LowersPlainly w m g answer ((kind_fields (m (Kind g))).number == 1)
LivePlainly w m g t answer false = (answer ≡ Ok Given) × Leaves w (dropped_plain g t m)

abbrev pub PartialPlainly : PortValue → Words → ℕ → PageType → Result Released Stop → Bool → Type 0
PartialPlainly w m g t answer true = (answer ≡ Ok (Opened g (kind_fields (m (Kind g))).progress false)) × (0 < (kind_fields (m (Kind g))).progress) × Leaves w (resumed_words g m)
PartialPlainly w m g t answer false = (answer ≡ Ok Given) × Leaves w (put g (set_kind g (dead_kind t (kind_fields (m (Kind g))).unflushed (stamp_now m)) (resumed_words g m)))

abbrev pub FormPlainly : PortValue → Words → ℕ → PageType → Result Released Stop → Form → Type 0
FormPlainly w m g t answer Live = LivePlainly w m g t answer (is_table t)
FormPlainly w m g t answer Partial = PartialPlainly w m g t answer (has_recorded t (kind_fields (m (Kind g))))
FormPlainly w m g t answer InWork = (answer ≡ Err (Paused (Busy g (m (Kind g))))) × Leaves w m
FormPlainly w m g t answer Dead = (answer ≡ Err (Paused (Busy g (m (Kind g))))) × Leaves w m

abbrev pub ReleasesPlainly : PortValue → Words → Result Released Stop → Demand → Type 0
ReleasesPlainly w m answer demands.Nothing = (answer ≡ Ok Given) × Leaves w m
ReleasesPlainly w m answer demands.Bad = (answer ≡ Ok Given) × Leaves w m
ReleasesPlainly w m answer (demands.Read g) = (answer ≡ Ok Given) × Leaves w (put g m)
ReleasesPlainly w m answer (demands.Typed g t) = FormPlainly w m g t answer (form_of (kind_fields (m (Kind g))))

-- by what the entry asks as it stands
abbrev pub TwinRelease : PortValue → PortValue → ℕ → PageType → ℕ → Result Released Stop → Type 0
TwinRelease v w f t i answer = is_telling v ≡ true → ReleasesPlainly w (told_word v) answer (demand_at t i (told_word v (Cell f i)))
