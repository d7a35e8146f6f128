-- Words of a machine, and the plain values of them.
use Rattle.std.specs.Prelude.{◌≡◌, ℕ, ◌<◌, length}
use Rattle.xp_words.specs.Machine.{Machine}
use Rattle.xp_words.specs.declared.place.Place.TheVariants.{Life, M2p, Pages, Priv, Refs, Vcpu}
use Rattle.xp_board.specs.Readings.{is_free}
use Rattle.xp_board.specs.Sound.{is_hinted}
use Rattle.xp_board.specs.Told.{PortValue, told_word}
use Rattle.step_maker.specs.Plain.{Words}
use Rattle.table_law.specs.Plain.{Describes, plain_of}
use Rattle.script_law.specs.Memory.{pages_of}
use Rattle.script_law.specs.Values.{Solo}

-- what the words come to for vCPU s
abbrev pub solo_in : Words → ℕ → Solo
solo_in m s =
    record {
      frames = plain_of m;
      maps = λ f. m (M2p f);
      own = λ k. m (Vcpu s k);
      privileges = λ d. m (Priv d);
      lives = λ d. m (Life d);
    }

-- the words that a port tells, for its vCPU
abbrev pub solo_of : PortValue → Solo
solo_of v = solo_in (told_word v) v.post.vcpu

-- Which words of a vCPU are told of: those that name frames and say where its LDT is. Words 2 and 3 name what is unfinished, 4, 5 and 6 are of its flushes and whether it runs.
pub data IsShownWord (k : ℕ) : Type 0 where
  base : k < 2 → IsShownWord k
  tables : 6 < k → k < 38 → IsShownWord k

-- The words m of machine n are those of x, as vCPU s knows it: its frames, but for stamps; machine-to-physical words; own words; privileges and lives. And the words that
-- are counted from these say so: the pages of each domain, and the map of free frames.
pub record Shows (n : Machine) (s : ℕ) (m : Words) (x : Solo) : Type 0 where
  pub frames : Describes n m x.frames
  pub maps : (f : ℕ) → f < n.frames → x.maps f ≡ m (M2p f)
  pub own : (k : ℕ) → IsShownWord k → x.own k ≡ m (Vcpu s k)
  pub privileges : (d : ℕ) → d < length n.page_limit → x.privileges d ≡ m (Priv d)
  pub lives : (d : ℕ) → d < length n.page_limit → x.lives d ≡ m (Life d)
  pub pages : (d : ℕ) → d < length n.page_limit → pages_of n d x.frames ≡ m (Pages d)
  pub free : (f : ℕ) → f < n.frames → is_hinted m f ≡ is_free (m (Refs f))
