-- A plain script of given elements, done behind each other.
use Rattle.std.proofs.Common.{ℕ, refl}
use Rattle.script_laws.specs.Plain.{PlainScript, answers_by, ends_by}

pub script_of : {E Solo Answer Answered : Type 0} → (Answered → Answer) → (Answered → Solo) → (ℕ → E → Solo → Answered) → PlainScript E Solo Answer Answered
script_of answer left alone =
    record {
      answer = answer;
      left = left;
      alone = alone;
      answers = answers_by answer left alone;
      ends = ends_by left alone;
      no_answers = λ k s. refl;
      no_end = λ k s. refl;
      more_answers = λ e es k s. refl;
      more_ends = λ e es k s. refl;
    }
