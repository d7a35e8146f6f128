-- Releases that are paused by the gate, and gone on with until they are done.
use Rattle.std.specs.Prelude.{◌≡◌, ℕ, ◌+◌, ◌≤◌, ◌<◌, true, false, Bool, List, Option, Result, Ok, Err}
use Rattle.xp_words.specs.KindWords.{kind_fields}
use Rattle.xp_words.specs.Machine.{Machine}
use Rattle.xp_words.specs.declared.place.Place.TheVariants.{Kind}
use Rattle.xp_words.specs.declared.reply.Pause.TheVariants.{Due}
use Rattle.xp_words.specs.declared.reply.Stop.{Stop}
use Rattle.xp_words.specs.declared.reply.Stop.TheVariants.{Paused}
use Rattle.xp_board.specs.Told.{PortValue, is_telling, told_word}
use Rattle.step_maker.specs.Twins.{Alike}
use Rattle.kind_words.specs.Kinds.{partial_kind}
use Rattle.partial_state.specs.Levels.{level_type}
use Rattle.table_words.specs.OldWords.{old_place}
use Rattle.table_words.specs.declared.old_words.OldWord.TheVariants.{First, Second}
use Rattle.table_law.specs.Plain.{Describes, Plain}
use Rattle.table_law.specs.Release.{let_go}
use Rattle.level_release.specs.Course as course
use Rattle.level_release.specs.Course.{Settled, WasReleased}

-- A release of frame f, a table of that level, is unfinished at w, and comes to q: the frame is partial with so many entries recorded, the first old word
-- names it, and the plain release of the words as they are leaves q.
pub record IsLeft (n : Machine) (w : PortValue) (f level : ℕ) (q : Plain) : Type 0 where
  pub machine : w.post.machine ≡ n
  pub telling : is_telling w ≡ true
  pub plain : Plain
  pub describes : Describes n (told_word w) plain
  pub held : ℕ
  pub few : held ≤ 512
  pub stamp : ℕ
  pub word : kind_fields (told_word w (Kind f)) ≡ partial_kind (level_type level) false false held stamp
  pub inside : f < n.frames
  pub low : 1 ≤ level
  pub high : level ≤ 4
  pub left : let_go level f plain ≡ q
  pub named : told_word w (old_place w.post.vcpu First) ≡ f + 1

-- where the first word is settled, the second one names no frame
abbrev pub SecondIsNone : {below : Option ℕ} {v w : PortValue} {answers : List Bool} {answer : Result (Unit {0}) Stop} → Settled below v w answers answer → Type 0
SecondIsNone (course.first w answers stop one) = Unit {0}
SecondIsNone (course.both u w answers more answer one two) = told_word u (old_place u.post.vcpu Second) ≡ 0

-- A call that settles begins where an earlier one was paused: for the same vCPU, on words that are alike but for stamps, the clock and the words of flushes.
-- (A vCPU that begins a turn may have flushed.)
pub record GoesOnFrom (v w : PortValue) : Type 0 where
  pub post : w.post ≡ v.post
  pub telling : is_telling w ≡ true
  pub words : Alike (told_word w) (told_word v)

-- It is settled again and again, and each call but the last is paused by the gate. (`below`: how much was left before; the gate is asked only where less is.)
pub data SettledAtLast : PortValue → PortValue → Type 0 where
  done : (below : Option ℕ) (v w : PortValue) (answers : List Bool) → (a : Settled below v w answers (Ok tt)) → SecondIsNone a → SettledAtLast v w
  again : (below : Option ℕ) (v u x w : PortValue) (answers : List Bool) → (a : Settled below v u answers (Err (Paused Due))) → SecondIsNone a → GoesOnFrom u x → SettledAtLast x w → SettledAtLast v w

-- A release, and what it left unfinished is settled until that is done.
pub data ReleasedAtLast (v : PortValue) (f level : ℕ) : PortValue → Type 0 where
  at_once : (w : PortValue) (answers : List Bool) → WasReleased v f (level_type level) w answers (Ok tt) → ReleasedAtLast v f level w
  later : (u x w : PortValue) (answers : List Bool) → WasReleased v f (level_type level) u answers (Err (Paused Due)) → GoesOnFrom u x → SettledAtLast x w → ReleasedAtLast v f level w
