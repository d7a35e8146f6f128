-- What the plain value has for a type that is taken of a frame.
use Rattle.std.specs.Prelude.{◌≡◌, ℕ, ◌<◌, Bool, true, false, IsTrue}
use Rattle.xp_words.specs.Machine.{Machine}
use Rattle.xp_words.specs.KindWords.{is_kind, kind_fields}
use Rattle.xp_words.specs.declared.kind.KindWord.{KindWord}
use Rattle.xp_words.specs.declared.kind.PageType.{PageType}
use Rattle.xp_words.specs.declared.reply.Refusal.{Refusal}
use Rattle.xp_board.specs.Readings.{is_dead}
use Rattle.step_maker.specs.Plain.{Words}
use Rattle.kind_words.specs.Kinds.{work_kind}
use Rattle.frame_types.specs.Standing.{standing_of}
use Rattle.frame_types.specs.declared.standing.Standing.{Standing}
use Rattle.frame_types.specs.declared.standing.Standing.TheVariants as stands
use Rattle.frame_types.specs.declared.taking.Taken.{Taken}
use Rattle.frame_types.specs.declared.taking.Taken.TheVariants.{Counted, InWork, Waiting}
use Rattle.partial_state.specs.Levels.{level_type}
use Rattle.table_law.specs.Alone.{Cause, fine, refused, take_at}
use Rattle.table_law.specs.Plain.{Describes, Plain, reference_back, with_kind}
use Rattle.table_twins.specs.Answers.{IsCause}

-- Nobody has the frame in hand for that type, and nothing of it is unfinished: it is dead, of another type, or live with that
-- type and a count below the limit.
abbrev pub IsReadyBy : Machine → KindWord → Standing → Type 0
IsReadyBy n k stands.Counted = k.number < n.limit
IsReadyBy n k stands.Dead = Unit {0}
IsReadyBy n k stands.Other = Unit {0}
IsReadyBy n k _ = ⊥

abbrev pub IsReady : Machine → PageType → ℕ → Type 0
IsReady n t w = IsTrue (is_kind (kind_fields w)) × IsReadyBy n (kind_fields w) (standing_of (kind_fields w) t)

-- counted, or live at once: the plain value takes it, and the words l are what it leaves
pub record IsTakenPlain (n : Machine) (l owner g : ℕ) (q : Plain) (words : Words) : Type 0 where
  pub left : Plain
  pub takes : take_at l n owner g q ≡ fine left
  pub describes : Describes n words left

-- in work: it is dead there, and the words are those with the frame in work and nothing of it recorded
pub record IsOpenedPlain (n : Machine) (l g progress : ℕ) (own : Bool) (q : Plain) (words : Words) : Type 0 where
  pub dead : is_dead (q.kinds g) ≡ true
  pub none : progress ≡ 0
  pub mine : own ≡ true
  pub describes : Describes n words (with_kind g (work_kind (level_type l) false 0) q)

-- in work with its mark, where a flush is awaited
pub record IsWaitingPlain (n : Machine) (l g : ℕ) (own : Bool) (q : Plain) (words : Words) : Type 0 where
  pub dead : is_dead (q.kinds g) ≡ true
  pub mine : own ≡ true
  pub describes : Describes n words (with_kind g (work_kind (level_type l) true 0) q)

-- q: the plain value with the reference taken; it knows no waiting, and has a frame that waits in work, with its mark and nothing recorded
abbrev pub TakesAsPlain : Machine → ℕ → ℕ → ℕ → Plain → Words → Taken → Type 0
TakesAsPlain n l owner g q words Counted = IsTakenPlain n l owner g q words
TakesAsPlain n l owner g q words (InWork progress own) = IsOpenedPlain n l g progress own q words
TakesAsPlain n l owner g q words (Waiting own stamp stop) = IsWaitingPlain n l g own q words

-- it is refused there for the same cause, and the reference given back
pub record IsRefusedPlain (n : Machine) (l owner g : ℕ) (q : Plain) (x : Refusal) : Type 0 where
  pub cause : Cause
  pub same : IsCause x cause
  pub takes : take_at l n owner g q ≡ refused cause (reference_back g q)
