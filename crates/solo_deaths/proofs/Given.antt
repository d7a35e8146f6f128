-- Laws of releases, as statements.
use Rattle.std.specs.Prelude.{◌≡◌, ◌<◌, ◌≤◌, ℕ, Bool, true, List, Ok, Err}
use Rattle.xp_words.specs.Machine.{IsMachine}
use Rattle.xp_words.specs.declared.reply.Pause.TheVariants.{Due}
use Rattle.xp_words.specs.declared.reply.Stop.TheVariants.{Paused}
use Rattle.xp_board.specs.Told.{PortValue, is_telling, told_word}
use Rattle.partial_state.specs.Levels.{level_type}
use Rattle.level_release.specs.Course.{WasReleased}
use Rattle.table_law.specs.Plain.{Describes, Plain}
use Rattle.table_law.specs.Release.{let_go}
use Rattle.release_laws.specs.Pauses.{IsLeft}

abbrev pub ReleaseLeaves : Type 0
ReleaseLeaves =
    (v w : PortValue) (f level : ℕ) (answers : List Bool) (p : Plain) → IsMachine v.post.machine → is_telling v ≡ true → f < v.post.machine.frames → level ≤ 4 → Describes v.post.machine (told_word v) p →
    WasReleased v f (level_type level) w answers (Ok tt) → Describes v.post.machine (told_word w) (let_go level f p)

abbrev pub PausedReleaseLeaves : Type 0
PausedReleaseLeaves =
    (v w : PortValue) (f level : ℕ) (answers : List Bool) (p : Plain) → is_telling v ≡ true → f < v.post.machine.frames → level ≤ 4 → Describes v.post.machine (told_word v) p →
    WasReleased v f (level_type level) w answers (Err (Paused Due)) → IsLeft v.post.machine w f level (let_go level f p)
