-- The machine as one vCPU alone knows it, and what an element of a list or an operation comes to.
use Rattle.std.specs.Prelude.{ℕ, ◌==◌, if◌then◌else◌, List, [], ◌∷◌, Option, Some, None}
use Rattle.xp_words.specs.Machine.{Machine}
use Rattle.xp_words.specs.declared.kind.KindWord.{KindWord}
use Rattle.xp_words.specs.declared.place.Place.{Place}
use Rattle.xp_words.specs.declared.place.Place.TheVariants.{Life, Priv}
use Rattle.xp_words.specs.declared.reply.Refusal.{Refusal}
use Rattle.table_law.specs.Alone.{Cause, PlainOutcome, take_reference}
use Rattle.table_law.specs.Plain.{Plain, Share}

-- Its frames: owners with counts, kind words, cells. The machine-to-physical word of each frame. The words of the vCPU itself, by number: 0 and 1 name the top
-- tables of its kernel and its user, 7 says where its LDT is, 8 to 21 name the pages of its GDT, and 22 to 37 those of its LDT; a word that names frame f is f + 1, and 0
-- where it names none. And of each domain the privileges and the life word.
-- The pages of a domain and the map of free frames are no parts: they are counts of the owners. There is no clock, no cache, and nothing unfinished.
pub record Solo : Type 0 where
  pub frames : Plain
  pub maps : ℕ → ℕ
  pub own : ℕ → ℕ
  pub privileges : ℕ → ℕ
  pub lives : ℕ → ℕ

-- on which machine, and of which domain the vCPU is
pub record Whose : Type 0 where
  pub machine : Machine
  pub domain : ℕ

-- one of these numbers another one
abbrev pub put_at : ℕ → ℕ → (ℕ → ℕ) → ℕ → ℕ
put_at f x old g = if g == f then x else old g

abbrev pub with_frames : Plain → Solo → Solo
with_frames p s = record s { frames = p }

abbrev pub with_own : ℕ → ℕ → Solo → Solo
with_own k x s = record s { own = put_at k x s.own }

-- the words of domains by name
abbrev pub of_domains : Solo → Place → ℕ
of_domains s (Priv d) = s.privileges d
of_domains s (Life d) = s.lives d
of_domains s _ = 0

-- Why it is refused. A word of a frame that the refusal carries stands here without its stamp; all other numbers of a refusal are exact.
pub data Why : Type 0 where
  Frames : Cause → Why
  IsPinned : KindWord → Why
  IsUnpinned : KindWord → Why
  Numbers : Refusal → Why

-- the answer of an operation, or of a call of a multicall
pub record Answer : Type 0 where
  pub done : ℕ
  pub value : ℕ
  pub refusal : Option Why

-- What an operation logs before its own answer: that an extent of that call got the block from that frame on; that a destruction left that frame, with the
-- owner and count that it has; and the answer of that call. Calls count from 1, and 0 stands for the operation itself.
pub data Line : Type 0 where
  Given : (call extent frame : ℕ) → Line
  Left : (frame : ℕ) (found : Share) → Line
  Called : (call : ℕ) (answer : Answer) → Line

-- ---- what one element comes to: an entry, a pin, an extent, a read
pub record Outcome : Type 0 where
  pub refusal : Option Why
  pub value : ℕ
  pub lines : List Line
  pub left : Solo

abbrev pub did : Solo → Outcome
did s = record { refusal = None; value = 0; lines = []; left = s }

abbrev pub stopped : Why → Solo → Outcome
stopped y s = record { refusal = Some y; value = 0; lines = []; left = s }

-- refused by its numbers alone, or else
abbrev pub allowed : Option Refusal → Solo → Outcome → Outcome
allowed None s o = o
allowed (Some x) s o = stopped (Numbers x) s

-- the next behind one that is not refused
abbrev pub next_behind : Outcome → Option Why → (Solo → Outcome) → Outcome
next_behind o None next = next o.left
next_behind o (Some y) next = o

abbrev pub then_do : Outcome → (Solo → Outcome) → Outcome
then_do o next = next_behind o o.refusal next

-- where it is refused, what was taken before it is given back
abbrev pub back_behind : Outcome → Option Why → (Plain → Plain) → Outcome
back_behind o None back = o
back_behind o (Some y) back = stopped y (with_frames (back o.left.frames) o.left)

abbrev pub or_back : Outcome → (Plain → Plain) → Outcome
or_back o back = back_behind o o.refusal back

-- ---- with the frames
-- What is done with the frames alone, and then the next. Where that is refused, the frames stay as it leaves them.
abbrev pub behind_by : Solo → PlainOutcome → Option Cause → (Solo → Outcome) → Outcome
behind_by s o None next = next (with_frames o.left s)
behind_by s o (Some c) next = stopped (Frames c) (with_frames o.left s)

abbrev pub behind : Solo → PlainOutcome → (Solo → Outcome) → Outcome
behind s o next = behind_by s o o.refusal next

-- The frame is looked at under a reference, which is given back: so it is to be a frame of that owner, below the limit of its count.
abbrev pub looked_by : Option Cause → Solo → (Solo → Outcome) → Outcome
looked_by None s next = next s
looked_by (Some c) s next = stopped (Frames c) s

abbrev pub looked : Machine → ℕ → ℕ → Solo → (Solo → Outcome) → Outcome
looked n owner f s next = looked_by (take_reference n owner f s.frames).refusal s next
