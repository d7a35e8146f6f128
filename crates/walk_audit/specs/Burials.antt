-- What may not be left of a dead domain.
use Rattle.std.specs.Prelude.{◌≡◌, ◌≢◌, ◌<◌, ℕ, ◌⊎◌, true, Some, IsTrue}
use Rattle.xp_words.specs.Machine.{Machine}
use Rattle.xp_words.specs.declared.place.Place.{Place}
use Rattle.xp_words.specs.declared.place.Place.TheVariants.{Vcpu, Refs}
use Rattle.xp_words.specs.Places.{sizes_of, run_of}
use Rattle.xp_board.specs.Readings.{kind_at, owner_of, allocated_mark, is_context, domain_of}

-- frame f is the domain's, and allocated, pinned or kept
pub record HasMark (m : Place → ℕ) (d f : ℕ) : Type 0 where
  pub owned : owner_of (m (Refs f)) ≡ Some d
  pub marked : (allocated_mark (m (Refs f)) ≡ 1) ⊎ (((kind_at m f).pinned ≡ true) ⊎ ((kind_at m f).kept ≡ true))

-- a word of vCPU v names a frame
pub record NamesOne (m : Place → ℕ) (v : ℕ) : Type 0 where
  pub word : ℕ
  pub few : word < 38
  pub context : IsTrue (is_context word)
  pub full : m (Vcpu v word) ≢ 0

-- vCPU v is not stopped, or names a frame
abbrev pub IsUnstopped : (Place → ℕ) → ℕ → Type 0
IsUnstopped m v = (m (run_of v) ≢ 1) ⊎ NamesOne m v

pub record LeavesFrame (n : Machine) (m : Place → ℕ) (d : ℕ) : Type 0 where
  pub frame : ℕ
  pub real : frame < n.frames
  pub marked : HasMark m d frame

pub record LeavesVcpu (n : Machine) (m : Place → ℕ) (d : ℕ) : Type 0 where
  pub vcpu : ℕ
  pub real : vcpu < (sizes_of n).vcpus
  pub own : domain_of n vcpu ≡ d
  pub unstopped : IsUnstopped m vcpu
