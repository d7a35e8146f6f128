-- Words in the midst of an element, and the plain value that they show.
use Rattle.std.specs.Prelude.{◌≡◌, ◌≢◌, ℕ, ◌<◌, true, false}
use Rattle.xp_words.specs.Machine.{Machine}
use Rattle.xp_words.specs.declared.kind.KindWord.{KindWord}
use Rattle.xp_words.specs.declared.place.Place.TheVariants.{Life, M2p, Priv, Vcpu}
use Rattle.xp_board.specs.Readings.{is_dead}
use Rattle.step_maker.specs.Plain.{Words}
use Rattle.table_words.specs.OldWords.{old_place}
use Rattle.table_words.specs.declared.old_words.OldWord.TheVariants.{First, Second}
use Rattle.table_law.specs.Plain.{Describes, Plain}
use Rattle.script_law.specs.Values.{Solo}
use Rattle.solo_ports.specs.Standing.{ShowsOthers}

-- beside frames, counts, the clock and flushes the words are the same
pub record SameBeside (m w : Words) : Type 0 where
  pub maps : (f : ℕ) → w (M2p f) ≡ m (M2p f)
  pub own : (s k : ℕ) → k ≢ 4 → k ≢ 5 → w (Vcpu s k) ≡ m (Vcpu s k)
  pub privileges : (d : ℕ) → w (Priv d) ≡ m (Priv d)
  pub lives : (d : ℕ) → w (Life d) ≡ m (Life d)

-- nothing of the frame is unfinished, and no mark keeps it: it is dead, or live with type counts
pub record IsWholeKind (k : KindWord) : Type 0 where
  pub unkept : k.kept ≡ false
  pub formed : is_dead k ≡ false → k.validated ≡ true
  pub counted : k.validated ≡ true → 0 < k.number

abbrev pub AreWhole : Machine → Plain → Type 0
AreWhole n p = (g : ℕ) → g < n.frames → IsWholeKind (p.kinds g)

-- The words m are those of x, as vCPU s knows it. Nothing of a frame is unfinished, and the old words name none.
pub record IsShown (n : Machine) (s : ℕ) (m : Words) (x : Solo) : Type 0 where
  pub others : ShowsOthers n s m x
  pub frames : Describes n m x.frames
  pub whole : AreWhole n x.frames
  pub first : m (old_place s First) ≡ 0
  pub second : m (old_place s Second) ≡ 0
