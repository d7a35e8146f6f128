-- Whether a domain lives.
use Rattle.std.specs.Prelude.{◌≡◌, ℕ, ◌+◌, ◌<◌, ◌≤◌, ◌==◌, ◌⊎◌, not, Bool, length, IsTrue}
use Rattle.xp_words.specs.Machine.{Machine}
use Rattle.xp_words.specs.KindWords.{kind_fields}
use Rattle.xp_words.specs.declared.place.Place.{Place}
use Rattle.xp_words.specs.declared.place.Place.TheVariants.{Life, Vcpu, Refs, Kind}
use Rattle.xp_words.specs.Places.{sizes_of, run_of}
use Rattle.xp_board.specs.declared.step.Act.{Act}
use Rattle.xp_board.specs.declared.step.Act.TheVariants.{Cas, Store}
use Rattle.xp_board.specs.declared.holdings.Holdings.{Holdings}
use Rattle.xp_board.specs.Steps.{some_since, some_between, some_before}
use Rattle.xp_board.specs.Readings.{domain_of, is_context, is_owned_by, allocated_mark}

-- the vCPU destroys a domain from now on
pub record MayDoom (s expected new : ℕ) : Type 0 where
  pub lives : expected ≡ 0
  pub left : new ≡ s + 1

-- ---- what the destroying vCPU has found
-- by the step below `upto`: each vCPU of the domain stopped, since the vCPU stored the life word
pub record HasStopped (m : Machine) (s d upto : ℕ) (h : Holdings) : Type 0 where
  pub since : ℕ
  pub stored : IsTrue (some_before (sizes_of m) since (Life d) (λ w. w == s + 1) h.steps)
  pub stopped : (v : ℕ) → v < length m.vcpu_domain → domain_of m v ≡ d →
      IsTrue (some_between (sizes_of m) since upto (run_of v) (λ w. w == 1) h.steps)
  pub order : since ≤ upto

-- after that, below `upto`: each word of those vCPUs that may name a frame empty, or emptied
pub record HasEmptied (m : Machine) (s d upto : ℕ) (h : Holdings) : Type 0 where
  pub since : ℕ
  pub stopped : HasStopped m s d since h
  pub empty : (v k : ℕ) → v < length m.vcpu_domain → domain_of m v ≡ d → k < 38 → IsTrue (is_context k) →
      IsTrue (some_between (sizes_of m) since upto (Vcpu v k) (λ w. w == 0) h.steps)
  pub order : since ≤ upto

abbrev pub is_unallocated : ℕ → Bool
is_unallocated w = allocated_mark w == 0

abbrev pub is_unpinned : ℕ → Bool
is_unpinned w = not (kind_fields w).pinned

abbrev pub is_unkept : ℕ → Bool
is_unkept w = not (kind_fields w).kept

-- the frame's marks absent, or cleared
pub record HasCleared (m : Machine) (f since : ℕ) (h : Holdings) : Type 0 where
  pub unallocated : IsTrue (some_since (sizes_of m) since (Refs f) is_unallocated h.steps)
  pub unpinned : IsTrue (some_since (sizes_of m) since (Kind f) is_unpinned h.steps)
  pub unkept : IsTrue (some_since (sizes_of m) since (Kind f) is_unkept h.steps)

-- after that: each frame another domain's or free, or without its marks
pub record MayBury (m : Machine) (s d new : ℕ) (h : Holdings) : Type 0 where
  pub dead : new ≡ 255
  pub since : ℕ
  pub emptied : HasEmptied m s d since h
  pub frames : (f : ℕ) → f < m.frames →
      IsTrue (some_since (sizes_of m) since (Refs f) (λ w. not (is_owned_by d w)) h.steps) ⊎ HasCleared m f since h

abbrev pub LegalLife : Machine → ℕ → Holdings → Place → Act → Type 0
LegalLife m s h (Life d) (Cas expected new) = MayDoom s expected new
LegalLife m s h (Life d) (Store new) = MayBury m s d new h
LegalLife m s h _ _ = ⊥
