-- What a vCPU's translations may lead to, though they may be old.
use Rattle.std.specs.Prelude.{◌≡◌, ◌≢◌, ℕ, ◌<◌, ◌≤◌, ◌⊎◌, true, false, Some, IsTrue}
use Rattle.xp_words.specs.declared.kind.KindWord.{KindWord}
use Rattle.xp_words.specs.declared.kind.PageType.{PageType}
use Rattle.xp_words.specs.PageTypes.{type_number}
use Rattle.xp_words.specs.Machine.{Machine}
use Rattle.xp_words.specs.declared.place.Place.{Place}
use Rattle.xp_words.specs.declared.place.Place.TheVariants.{Clock, Refs}
use Rattle.xp_words.specs.Places.{Sizes, sizes_of, flushed_of}
use Rattle.xp_board.specs.declared.holdings.Holdings.{Holdings}
use Rattle.xp_board.specs.Lists.{EachOf}
use Rattle.xp_board.specs.Steps.{EachSince}
use Rattle.xp_board.specs.Readings.{kind_at, is_dead, is_free, free_stamp, owner_of, domain_of}
use Rattle.xp_board.specs.Hands.{claims_of}
use Rattle.xp_board.specs.Valid.{Permits}
use Rattle.xp_board.specs.Reach.{Use, Table, Writes, Reads, Reach}

-- the type that a frame of that use has
abbrev pub Matches : PageType → Use → Type 0
Matches t (Table level) = type_number t ≡ level
Matches t Writes = type_number t ≡ 7
Matches t Reads = Unit {0}

-- The owner of a frame of that use: the vCPU's domain, or one whose frames that domain may write or read.
abbrev pub Belongs : (Place → ℕ) → ℕ → ℕ → Use → Type 0
Belongs m d g (Table level) = (IsTrue (is_free (m (Refs g)))) ⊎ (owner_of (m (Refs g)) ≡ Some d)
Belongs m d g Writes = Permits m d g
Belongs m d g Reads = Permits m d g

-- The kind word of a frame bears a translation by a vCPU that was flushed at that clock: it has the type,
-- unmarked, or it is marked, or dead, and the vCPU was not flushed since the stamp. To read bears always.
pub record Bears (flushed : ℕ) (k : KindWord) (u : Use) : Type 0 where
  pub typed : u ≢ Reads → ((k.unflushed ≡ false) × Matches k.kind u) ⊎ ((k.unflushed ≡ true) × (flushed ≤ k.number))
  pub dead : u ≢ Reads → IsTrue (is_dead k) → flushed ≤ k.number

-- who flushed at that clock did not flush since any clock value that the vCPU with this hand has found while the frame
-- was ending, or in work, in it
pub record Awaited (z : Sizes) (flushed g : ℕ) (u : Use) (h : Holdings) : Type 0 where
  pub ending : EachOf (λ e. e.frame ≡ g → EachSince z e.since Clock (λ w. flushed ≤ w) h.steps) h.ending
  pub work : u ≢ Reads → EachOf (λ e. e.frame ≡ g → EachSince z e.since Clock (λ w. flushed ≤ w) h.steps) h.works

-- one frame that vCPU v can come to
pub record FreshAt (n : Machine) (m : Place → ℕ) (h : ℕ → Holdings) (v g : ℕ) (u : Use) : Type 0 where
  pub owner : Belongs m (domain_of n v) g u
  pub free : IsTrue (is_free (m (Refs g))) → m (flushed_of v) ≤ free_stamp (m (Refs g))
  pub unclaimed : (s : ℕ) → s < (sizes_of n).vcpus → claims_of g (h s).claimed ≡ 0
  pub bears : Bears (m (flushed_of v)) (kind_at m g) u
  pub awaited : (s : ℕ) → s < (sizes_of n).vcpus → Awaited (sizes_of n) (m (flushed_of v)) g u (h s)

-- all that vCPU v can come to
abbrev pub FreshFor : Machine → (Place → ℕ) → (ℕ → Holdings) → ℕ → Type 0
FreshFor n m h v = (g : ℕ) (u : Use) → Reach (sizes_of n) m (h v) g u → FreshAt n m h v g u

-- each vCPU's; and all uses of one frame, but to read it, are one
pub record Fresh (n : Machine) (m : Place → ℕ) (h : ℕ → Holdings) : Type 0 where
  pub each : (v : ℕ) → v < (sizes_of n).vcpus → FreshFor n m h v
  pub one_use : (v w g : ℕ) (t u : Use) → v < (sizes_of n).vcpus → w < (sizes_of n).vcpus →
      Reach (sizes_of n) m (h v) g t → Reach (sizes_of n) m (h w) g u → t ≢ Reads → u ≢ Reads → t ≡ u
