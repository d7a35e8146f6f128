-- Acquisitions that are made again and again, until one is not paused by the gate.
use Rattle.std.specs.Prelude.{◌≡◌, ℕ, ◌<◌, true, Bool, List, Result, Err}
use Rattle.xp_words.specs.declared.place.Place.TheVariants.{Refs}
use Rattle.xp_words.specs.declared.reply.Pause.TheVariants.{Due}
use Rattle.xp_words.specs.declared.reply.Stop.{Stop}
use Rattle.xp_words.specs.declared.reply.Stop.TheVariants.{Paused}
use Rattle.xp_board.specs.Readings.{ref_count}
use Rattle.xp_board.specs.Told.{PortValue, is_telling, told_word}
use Rattle.step_maker.specs.Moves.{Met, Moment}
use Rattle.step_maker.specs.Twins.{Alike}
use Rattle.table_entries.specs.Acquiring.{Acquired}
use Rattle.course_laws.specs.Courses.{FindsAlive}

-- no step from v to w found a reference word with its count at the limit
abbrev pub HasRoom : PortValue → PortValue → Type 0
HasRoom v w = (m : Moment) (g : ℕ) → Met v w m → m.place ≡ Refs g → ref_count m.found < v.post.machine.limit

-- A call begins where the last one ended: on the same machine, whose words are all told, and are alike but for stamps, the clock and the words of flushes.
-- (A turn may begin with a flush.)
pub record StaysFrom (v w : PortValue) : Type 0 where
  pub machine : w.post.machine ≡ v.post.machine
  pub telling : is_telling w ≡ true
  pub words : Alike (told_word w) (told_word v)

-- Acquisitions of one frame for one owner and level, of which the first is a resumption: each but the last one is paused by the gate, and
-- finds the owner alive where it looks for that (it does so where the frame is another domain's).
-- A resumption takes one reference more to each table that it resumes, until this is complete: in the last one that finds room.
pub data Repeats (f owner level : ℕ) : PortValue → PortValue → Result ℕ Stop → Type 0 where
  last : (v w : PortValue) (answers : List Bool) (answer : Result ℕ Stop) → Acquired v f owner level w answers answer → HasRoom v w → Repeats f owner level v w answer
  again : (v u x w : PortValue) (answers : List Bool) (answer : Result ℕ Stop) → Acquired v f owner level u answers (Err (Paused Due)) → FindsAlive v u owner → StaysFrom u x → Repeats f owner level x w answer →
      Repeats f owner level v w answer

-- the same from the first on, which resumes nothing
pub data Calls (f owner level : ℕ) : PortValue → PortValue → Result ℕ Stop → Type 0 where
  once : (v w : PortValue) (answers : List Bool) (answer : Result ℕ Stop) → Acquired v f owner level w answers answer → Calls f owner level v w answer
  more : (v u x w : PortValue) (answers : List Bool) (answer : Result ℕ Stop) → Acquired v f owner level u answers (Err (Paused Due)) → FindsAlive v u owner → StaysFrom u x → Repeats f owner level x w answer →
      Calls f owner level v w answer
