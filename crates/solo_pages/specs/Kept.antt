-- What an element changes of a plain value beside its frames.
use Rattle.std.specs.Prelude.{◌≡◌, ◌⊎◌, ◌+◌, ◌≤◌, ◌<◌, ℕ, false}
use Rattle.script_law.specs.Values.{Solo}

-- From x to y own words that are named may have changed, and frames: but no frame came by the mark that keeps it.
pub record KeepsBeside (named : ℕ → Type 0) (x y : Solo) : Type 0 where
  pub unkept : (g : ℕ) → (x.frames.kinds g).kept ≡ false → (y.frames.kinds g).kept ≡ false
  pub maps : y.maps ≡ x.maps
  pub privileges : y.privileges ≡ x.privileges
  pub lives : y.lives ≡ x.lives
  pub own : (k : ℕ) → (named k → ⊥) → y.own k ≡ x.own k

-- ---- the words of the GDT; those of the LDT and where it is; and that of one page of it
abbrev pub IsGdtWord : ℕ → Type 0
IsGdtWord k = (8 ≤ k) × (k < 22)

abbrev pub IsLdtWord : ℕ → Type 0
IsLdtWord k = (k ≡ 7) ⊎ ((22 ≤ k) × (k < 38))

abbrev pub IsPageWord : ℕ → ℕ → Type 0
IsPageWord page k = k ≡ 22 + page
