-- What a call comes to that the plain functions have, too.
use Rattle.std.specs.Prelude.{◌≡◌, ℕ, [], Some, None, Result, Ok, Err}
use Rattle.xp_words.specs.Machine.{Machine}
use Rattle.xp_words.specs.declared.reply.Stop.{Stop}
use Rattle.xp_words.specs.declared.reply.Stop.TheVariants.{Refused, Paused}
use Rattle.step_maker.specs.Plain.{Words}
use Rattle.course_laws.specs.Courses.{IsFinal}
use Rattle.table_law.specs.Alone.{Cause, PlainOutcome}
use Rattle.table_law.specs.Plain.{Describes}
use Rattle.table_twins.specs.Answers.{IsCause}
use Rattle.script_law.specs.Values.{Outcome, Why}
use Rattle.solo_ports.specs.Coming.{IsWhy}
use Rattle.solo_pages.specs.Shown.{IsShown}

-- done, or refused, and that not for the clock
abbrev pub IsEnded : {A : Type 0} → Result A Stop → Type 0
IsEnded (Ok a) = Unit {0}
IsEnded (Err e) = IsFinal e

-- The answer is that of the outcome, with the words w behind it.
abbrev pub EndsAs : {A : Type 0} → Machine → Words → PlainOutcome → Result A Stop → Type 0
EndsAs n w o (Ok a) = (o.refusal ≡ None) × Describes n w o.left
EndsAs n w o (Err (Refused y)) = (c : Cause) × (o.refusal ≡ Some c) × IsCause y c × Describes n w o.left
EndsAs n w o (Err (Paused x)) = ⊥

-- the same with all words, as vCPU s knows them, where the outcome logs nothing
abbrev pub EndsSo : {A : Type 0} → Machine → ℕ → Words → Outcome → Result A Stop → Type 0
EndsSo n s w o (Ok a) = (o.refusal ≡ None) × (o.lines ≡ []) × IsShown n s w o.left
EndsSo n s w o (Err (Refused y)) = (why : Why) × (o.refusal ≡ Some why) × (o.lines ≡ []) × IsWhy y why × IsShown n s w o.left
EndsSo n s w o (Err (Paused x)) = ⊥
