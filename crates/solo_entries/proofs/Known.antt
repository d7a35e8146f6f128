-- What laws of crates below say, in one record.
use Rattle.std.proofs.Common.{◌≡◌, ◌⊎◌, ◌≤◌, ℕ, true, Bool, List, length, Result, Err}
use Rattle.xp_words.specs.Machine.{IsMachine}
use Rattle.xp_words.specs.declared.reply.Pause.TheVariants.{Due}
use Rattle.xp_words.specs.declared.reply.Stop.{Stop}
use Rattle.xp_words.specs.declared.reply.Stop.TheVariants.{Paused}
use Rattle.xp_board.specs.Told.{PortValue, is_telling, told_word}
use Rattle.answer_laws.specs.Alone.{IsAlone}
use Rattle.table_words.specs.OldWords.{old_place}
use Rattle.table_words.specs.declared.old_words.OldWord.TheVariants.{First}
use Rattle.table_entries.specs.Acquiring.{Acquired}
use Rattle.table_law.specs.Alone.{alone}
use Rattle.table_law.specs.Lawful.{IsAtRest}
use Rattle.table_law.specs.Plain.{Describes, Plain}
use Rattle.course_laws.specs.Courses.{ClockGoesOn, IsOrderly}
use Rattle.course_laws.proofs.Awaiting.{AloneStays, NeitherLostNorBusy, NobodyWaitedFor}
use Rattle.pause_laws.specs.Calls.{HasRoom}
use Rattle.refusal_laws.specs.Refusals.{ComesTo}
use Rattle.refusal_laws.specs.Repeated.{IsKeptTable, PausedCalls}
use Rattle.exchange_laws.proofs.Releasing.{PausesAsPlain, ReleasesAsPlain}

abbrev pub FirstComes : Type 0
FirstComes =
    (v w : PortValue) (f owner level : ℕ) (p : Plain) (answers : List Bool) (answer : Result ℕ Stop) → IsAlone v → length v.post.machine.vcpu_domain ≡ 1 → IsAtRest v.post.machine (told_word v) →
    told_word v (old_place v.post.vcpu First) ≡ 0 → 1 ≤ level → level ≤ 4 → Describes v.post.machine (told_word v) p → Acquired v f owner level w answers answer → ClockGoesOn v w →
    (answer ≡ Err (Paused Due)) ⊎ ComesTo v.post.machine w f level (alone v.post.machine owner level f p) answer

abbrev pub LaterComes : Type 0
LaterComes =
    (v u w : PortValue) (f owner level : ℕ) (p : Plain) (answers : List Bool) (answer : Result ℕ Stop) → IsMachine v.post.machine → IsAtRest v.post.machine (told_word v) → IsOrderly v.post.machine (told_word v) →
    told_word v (old_place v.post.vcpu First) ≡ 0 → 1 ≤ level → level ≤ 4 → Describes v.post.machine (told_word v) p → PausedCalls f owner level v u → IsAlone u → length u.post.machine.vcpu_domain ≡ 1 →
    Acquired u f owner level w answers answer → ClockGoesOn u w → HasRoom u w → (answer ≡ Err (Paused Due)) ⊎ ComesTo v.post.machine w f level (alone v.post.machine owner level f p) answer

abbrev pub LeavesKept : Type 0
LeavesKept =
    (v u : PortValue) (f owner level : ℕ) (p : Plain) → IsMachine v.post.machine → is_telling v ≡ true → IsAtRest v.post.machine (told_word v) → IsOrderly v.post.machine (told_word v) → 1 ≤ level → level ≤ 4 →
    Describes v.post.machine (told_word v) p → PausedCalls f owner level v u → IsKeptTable f owner level v u

pub record Known : Type 0 where
  pub stays : AloneStays
  pub neither : NeitherLostNorBusy
  pub nobody : NobodyWaitedFor
  pub releases : ReleasesAsPlain
  pub pauses : PausesAsPlain
  pub first : FirstComes
  pub later : LaterComes
  pub kept : LeavesKept
