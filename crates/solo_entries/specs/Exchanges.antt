-- What an exchange of an entry comes to, and what it takes of its table.
use Rattle.std.specs.Prelude.{◌≡◌, ◌≤◌, ℕ, true, None, Some, Result, Ok, Err}
use Rattle.xp_words.specs.Machine.{Machine}
use Rattle.xp_words.specs.declared.reply.Refusal.{Refusal}
use Rattle.xp_words.specs.declared.reply.Stop.{Stop}
use Rattle.xp_words.specs.declared.reply.Stop.TheVariants.{Refused, Paused}
use Rattle.xp_board.specs.Told.{PortValue, told_word}
use Rattle.table_words.specs.OldWords.{old_place}
use Rattle.table_words.specs.declared.old_words.OldWord.TheVariants.{First}
use Rattle.table_law.specs.Alone.{Cause, PlainOutcome}
use Rattle.table_law.specs.Plain.{Describes, Plain}
use Rattle.table_twins.specs.Answers.{IsCause}
use Rattle.release_laws.specs.Pauses.{IsLeft}

-- the table is live, with two type counts or more: so it stays live as its lock goes off
pub record HasTwoTypeCounts (f : ℕ) (p : Plain) : Type 0 where
  pub live : (p.kinds f).validated ≡ true
  pub several : 2 ≤ (p.kinds f).number

-- The words at w are q, and the first old word names no frame; or the release of a table is unfinished there, and leaves q.
pub data LeavesFrames (n : Machine) (w : PortValue) (q : Plain) : Type 0 where
  now : told_word w (old_place w.post.vcpu First) ≡ 0 → Describes n (told_word w) q → LeavesFrames n w q
  later : (g l : ℕ) → IsLeft n w g l q → LeavesFrames n w q

pub record RefusedSo (n : Machine) (w : PortValue) (y : Refusal) (a : PlainOutcome) : Type 0 where
  pub cause : Cause
  pub is : a.refusal ≡ Some cause
  pub same : IsCause y cause
  pub left : LeavesFrames n w a.left

-- what a whole exchange comes to
abbrev pub ComesSo : Machine → PortValue → PlainOutcome → Result (Unit {0}) Stop → Type 0
ComesSo n w a (Ok done) = (a.refusal ≡ None) × LeavesFrames n w a.left
ComesSo n w a (Err (Refused y)) = RefusedSo n w y a
ComesSo n w a (Err (Paused x)) = ⊥
