-- Laws of other crates, as statements: what acquisitions and releases come to.
use Rattle.std.specs.Prelude.{◌≡◌, ◌⊎◌, ◌<◌, ◌≤◌, ℕ, Bool, true, List, length, Result, Ok, Err}
use Rattle.xp_words.specs.Machine.{IsMachine}
use Rattle.xp_words.specs.declared.place.Place.{Place}
use Rattle.xp_words.specs.declared.reply.Pause.TheVariants.{Due}
use Rattle.xp_words.specs.declared.reply.Stop.{Stop}
use Rattle.xp_words.specs.declared.reply.Stop.TheVariants.{Paused}
use Rattle.xp_board.specs.Told.{PortValue, is_telling, told_word}
use Rattle.answer_laws.specs.Alone.{IsAlone}
use Rattle.partial_state.specs.Levels.{level_type}
use Rattle.table_words.specs.OldWords.{old_place}
use Rattle.table_words.specs.declared.old_words.OldWord.TheVariants.{First}
use Rattle.table_entries.specs.Acquiring.{Acquired}
use Rattle.level_release.specs.Course.{WasReleased}
use Rattle.table_law.specs.Alone.{alone}
use Rattle.table_law.specs.Lawful.{IsAtRest}
use Rattle.table_law.specs.Plain.{Describes, Plain}
use Rattle.table_law.specs.Release.{let_go}
use Rattle.course_laws.specs.Courses.{ClockGoesOn, IsOrderly}
use Rattle.pause_laws.specs.Calls.{HasRoom}
use Rattle.release_laws.specs.Pauses.{IsLeft}
use Rattle.refusal_laws.specs.Refusals.{ComesTo}
use Rattle.refusal_laws.specs.Repeated.{IsDeadFrame, IsKeptTable, IsUntouched, PausedCalls}

-- ---- laws of releases
abbrev pub ReleaseLeaves : Type 0
ReleaseLeaves =
    (v w : PortValue) (f level : ℕ) (answers : List Bool) (p : Plain) → IsMachine v.post.machine → is_telling v ≡ true → f < v.post.machine.frames → level ≤ 4 → Describes v.post.machine (told_word v) p →
    WasReleased v f (level_type level) w answers (Ok tt) → Describes v.post.machine (told_word w) (let_go level f p)

abbrev pub PausedReleaseLeaves : Type 0
PausedReleaseLeaves =
    (v w : PortValue) (f level : ℕ) (answers : List Bool) (p : Plain) → is_telling v ≡ true → f < v.post.machine.frames → level ≤ 4 → Describes v.post.machine (told_word v) p →
    WasReleased v f (level_type level) w answers (Err (Paused Due)) → IsLeft v.post.machine w f level (let_go level f p)

-- ---- laws of acquisitions
abbrev pub FirstComes : Type 0
FirstComes =
    (v w : PortValue) (f owner level : ℕ) (p : Plain) (answers : List Bool) (answer : Result ℕ Stop) → IsAlone v → length v.post.machine.vcpu_domain ≡ 1 → IsAtRest v.post.machine (told_word v) →
    told_word v (old_place v.post.vcpu First) ≡ 0 → 1 ≤ level → level ≤ 4 → Describes v.post.machine (told_word v) p → Acquired v f owner level w answers answer → ClockGoesOn v w →
    (answer ≡ Err (Paused Due)) ⊎ ComesTo v.post.machine w f level (alone v.post.machine owner level f p) answer

abbrev pub LaterComes : Type 0
LaterComes =
    (v u w : PortValue) (f owner level : ℕ) (p : Plain) (answers : List Bool) (answer : Result ℕ Stop) → IsMachine v.post.machine → IsAtRest v.post.machine (told_word v) → IsOrderly v.post.machine (told_word v) →
    told_word v (old_place v.post.vcpu First) ≡ 0 → 1 ≤ level → level ≤ 4 → Describes v.post.machine (told_word v) p → PausedCalls f owner level v u → IsAlone u → length u.post.machine.vcpu_domain ≡ 1 →
    Acquired u f owner level w answers answer → ClockGoesOn u w → HasRoom u w → (answer ≡ Err (Paused Due)) ⊎ ComesTo v.post.machine w f level (alone v.post.machine owner level f p) answer

abbrev pub LeavesKept : Type 0
LeavesKept =
    (v u : PortValue) (f owner level : ℕ) (p : Plain) → IsMachine v.post.machine → is_telling v ≡ true → IsAtRest v.post.machine (told_word v) → IsOrderly v.post.machine (told_word v) → 1 ≤ level → level ≤ 4 →
    Describes v.post.machine (told_word v) p → PausedCalls f owner level v u → IsKeptTable f owner level v u

abbrev pub FoundDead : Type 0
FoundDead =
    (v u : PortValue) (f owner level : ℕ) (p : Plain) → IsMachine v.post.machine → is_telling v ≡ true → IsAtRest v.post.machine (told_word v) → IsOrderly v.post.machine (told_word v) → 1 ≤ level → level ≤ 4 →
    Describes v.post.machine (told_word v) p → PausedCalls f owner level v u → IsDeadFrame v.post.machine p f owner

abbrev pub CallsTelling : Type 0
CallsTelling = (v u : PortValue) (f owner level : ℕ) → PausedCalls f owner level v u → is_telling v ≡ true

abbrev pub HadSpares : Type 0
HadSpares = (v w : PortValue) (f owner level g : ℕ) (answers : List Bool) (q : Place) → is_telling v ≡ true → Acquired v f owner level w answers (Ok g) → IsUntouched q → told_word w q ≡ told_word v q
