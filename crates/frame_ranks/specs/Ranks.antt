-- How far frames have come on their way to be validated, and what it is that none of them falls back.
use Rattle.std.specs.Prelude.{◌≡◌, ℕ, ◌+◌, ◌<◌, ◌≤◌, ◌==◌, if◌then◌else◌, true}
use Rattle.xp_words.specs.Machine.{Machine}
use Rattle.xp_words.specs.PageTypes.{type_number}
use Rattle.xp_words.specs.Places.{sizes_of}
use Rattle.xp_words.specs.declared.kind.KindWord.{KindWord}
use Rattle.xp_words.specs.declared.place.Place.TheVariants.{Life}
use Rattle.xp_board.specs.Readings.{kind_at}
use Rattle.step_maker.specs.Plain.{Words}
use Rattle.table_words.specs.OldWords.{old_place}
use Rattle.table_words.specs.declared.old_words.OldWord.{OldWord}

-- A frame that waits for its flush has rank 1; a partial one two more than entries are recorded of it, and a live one is beyond all these. Any other, which is dead, in work, or ends, has 0, but a descriptor
-- page 1: one that waited may have been live since, and be dead again, as another page of the same table was not to be had.
abbrev pub rank_of : KindWord → ℕ
rank_of k = if k.validated then 515 else if k.partial then (if k.unflushed then 1 else k.progress + 2) else if type_number k.kind == 5 then 1 else 0

abbrev pub rank_at : Words → ℕ → ℕ
rank_at m f = rank_of (kind_at m f)

-- From the words m to m' no frame falls back; a live one stays so, and has no fewer type counts; and the old words of all vCPUs name what they named.
pub record GoesForward (n : Machine) (m m' : Words) : Type 0 where
  pub ranks : (f : ℕ) → f < n.frames → rank_at m f ≤ rank_at m' f
  pub counts : (f : ℕ) → f < n.frames → (kind_at m f).validated ≡ true → ((kind_at m' f).validated ≡ true) × ((kind_at m f).number ≤ (kind_at m' f).number)
  pub olds : (s : ℕ) (which : OldWord) → m' (old_place s which) ≡ m (old_place s which)

-- a frame is further then
pub record GetsFurther (n : Machine) (m m' : Words) : Type 0 where
  pub frame : ℕ
  pub real : frame < n.frames
  pub higher : rank_at m frame < rank_at m' frame

-- no domain is dying or dead
abbrev pub AreAllAlive : Machine → Words → Type 0
AreAllAlive n m = (d : ℕ) → d < (sizes_of n).domains → m (Life d) ≡ 0
