-- What an act of vCPU s may do to the words, as the facts of all vCPUs ask it.
use Rattle.std.proofs.Common.{◌≡◌, ◌≢◌, ℕ, ◌<◌, ◌≤◌, ◌⊎◌, IsTrue}
use Rattle.xp_words.specs.Machine.{Machine}
use Rattle.xp_words.specs.declared.place.Place.{Place}
use Rattle.xp_words.specs.declared.place.Place.TheVariants.{Clock, Life, Vcpu, Refs, Kind, Cell, Priv}
use Rattle.xp_words.specs.Places.{sizes_of, is_place, flushed_of, run_of}
use Rattle.xp_board.specs.declared.holdings.Holdings.{Holdings}
use Rattle.xp_board.specs.Lists.{EachOf}
use Rattle.xp_board.specs.Readings.{kind_at, is_live, owner_of, ref_count, type_count, clock_value, has_now, has_ever}
use Rattle.xp_board.specs.Hands.{works_on, locks_on, endings_of, claims_of}
use Rattle.xp_board.specs.Found.{is_known_inside, is_same_cell, is_same_entry}

-- of any vCPU: words that only move one way, and frames with references
pub record Moves (n : Machine) (m m2 : Place → ℕ) : Type 0 where
  pub clock : m Clock ≤ m2 Clock
  pub clocks : (p : Place) → clock_value p (m2 p) ≤ m2 Clock
  pub flushed : (v : ℕ) → m (flushed_of v) ≤ m2 (flushed_of v)
  pub stopped : (v : ℕ) → m (run_of v) ≡ 1 → m2 (run_of v) ≡ 1
  pub life : (d w : ℕ) → w ≢ 0 → (m (Life d) ≡ w) ⊎ (m (Life d) ≡ 255) → (m2 (Life d) ≡ w) ⊎ (m2 (Life d) ≡ 255)
  pub ever : (d o : ℕ) → IsTrue (has_ever o (m (Priv d))) → IsTrue (has_ever o (m2 (Priv d)))
  pub now : (d o : ℕ) → o < 16 → IsTrue (is_place (sizes_of n) (Priv d)) → IsTrue (has_now o (m2 (Priv d))) → IsTrue (has_ever o (m2 (Priv d)))
  pub owner : (f : ℕ) → 0 < ref_count (m (Refs f)) → owner_of (m2 (Refs f)) ≡ owner_of (m (Refs f))
  pub live : (f : ℕ) → 0 < type_count (kind_at m f) → IsTrue (is_live (kind_at m f)) → IsTrue (is_live (kind_at m2 f))
  pub kind : (f : ℕ) → 0 < type_count (kind_at m f) → (kind_at m2 f).kind ≡ (kind_at m f).kind

-- of another vCPU t: what it has in its hand alone
pub record Spares (m m2 : Place → ℕ) (t : ℕ) (u : Holdings) : Type 0 where
  pub flushed : m2 (flushed_of t) ≡ m (flushed_of t)
  pub run : m2 (run_of t) ≡ m (run_of t)
  pub own : (k : ℕ) → k ≢ 4 → k ≢ 5 → m2 (run_of t) ≢ 1 → m2 (Vcpu t k) ≡ m (Vcpu t k)
  pub works : (f : ℕ) → 0 < works_on f u.works → m2 (Kind f) ≡ m (Kind f)
  pub ending : (f : ℕ) → 0 < endings_of f u.ending → m2 (Refs f) ≡ m (Refs f)
  pub claimed : (f : ℕ) → 0 < claims_of f u.claimed → m2 (Refs f) ≡ m (Refs f)
  pub work_cells : (f i : ℕ) → 0 < works_on f u.works → IsTrue (is_known_inside (kind_at m f)) → IsTrue (is_same_cell (kind_at m f).kind (m2 (Cell f i)) (m (Cell f i)))
  pub lock_cells : (f i : ℕ) → 0 < locks_on f u.locks → IsTrue (is_same_entry (m2 (Cell f i)) (m (Cell f i)))
  pub claim_cells : (f i : ℕ) → 0 < claims_of f u.claimed → m2 (Cell f i) ≡ m (Cell f i)
  pub fixed_cells : EachOf (λ e. (i : ℕ) → i < e.fixed → m2 (Cell e.frame i) ≡ m (Cell e.frame i)) u.works

-- what the act of vCPU s leaves of the words
pub record Words (n : Machine) (s : ℕ) (m m2 : Place → ℕ) (b : ℕ → Holdings) : Type 0 where
  pub moves : Moves n m m2
  pub spares : (t : ℕ) → t < (sizes_of n).vcpus → t ≢ s → Spares m m2 t (b t)
