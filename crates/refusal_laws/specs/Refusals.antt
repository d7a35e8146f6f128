-- What an acquisition comes to that is had or refused, and what is settled behind one that is refused.
use Rattle.std.specs.Prelude.{◌≡◌, ℕ, true, None, Some, Result, Ok, Err}
use Rattle.xp_words.specs.Machine.{Machine}
use Rattle.xp_words.specs.declared.reply.Refusal.{Refusal}
use Rattle.xp_words.specs.declared.reply.Stop.{Stop}
use Rattle.xp_words.specs.declared.reply.Stop.TheVariants.{Refused, Paused}
use Rattle.xp_board.specs.Told.{PortValue, is_telling, told_word}
use Rattle.table_words.specs.OldWords.{old_place}
use Rattle.table_words.specs.declared.old_words.OldWord.TheVariants.{First}
use Rattle.table_law.specs.Alone.{Cause, PlainOutcome}
use Rattle.table_law.specs.Plain.{Describes, Plain}
use Rattle.table_twins.specs.Answers.{IsCause}
use Rattle.pause_laws.specs.Calls.{Calls}
use Rattle.release_laws.specs.Pauses.{GoesOnFrom, IsLeft, SettledAtLast}

-- What is still to be settled at w until its words are q: nothing, where the first old word names no frame; or the unfinished release of frame f, a table of that
-- level.
pub data Owes (n : Machine) (w : PortValue) (f level : ℕ) (q : Plain) : Type 0 where
  nothing : is_telling w ≡ true → told_word w (old_place w.post.vcpu First) ≡ 0 → Describes n (told_word w) q → Owes n w f level q
  a_release : IsLeft n w f level q → Owes n w f level q

-- Refused for x, as the acquisition alone is, which comes to a: for the same cause (with the word that x carries, but for its stamp); and what it leaves is a's, once it
-- is settled.
pub record IsRefusedAs (n : Machine) (w : PortValue) (f level : ℕ) (x : Refusal) (a : PlainOutcome) : Type 0 where
  pub cause : Cause
  pub is : a.refusal ≡ Some cause
  pub same : IsCause x cause
  pub owes : Owes n w f level a.left

-- had, as the acquisition alone is; or refused
abbrev pub ComesTo : Machine → PortValue → ℕ → ℕ → PlainOutcome → Result ℕ Stop → Type 0
ComesTo n w f level a (Ok g) = (a.refusal ≡ None) × Describes n (told_word w) a.left
ComesTo n w f level a (Err (Refused x)) = IsRefusedAs n w f level x a
ComesTo n w f level a (Err (Paused x)) = ⊥

-- A frame is asked as a table until that is refused, and what was left unfinished is settled until it is done.
pub record RefusedAtLast (f owner level : ℕ) (v w : PortValue) (x : Refusal) : Type 0 where
  pub refused : PortValue
  pub calls : Calls f owner level v refused (Err (Refused x))
  pub next : PortValue
  pub on : GoesOnFrom refused next
  pub settled : SettledAtLast next w
