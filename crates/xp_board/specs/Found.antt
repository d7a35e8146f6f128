-- What each vCPU found stays true: the facts on which legality lets a vCPU rely.
use Rattle.std.specs.Prelude.{◌≡◌, ◌≢◌, ℕ, ◌+◌, ◌/◌, ◌%◌, ◌<◌, ◌≤◌, ◌==◌, ◌&&◌, ◌||◌, ◌*◌, ◌⊎◌, not, if◌then◌else◌, Bool, true, List, Some, IsTrue}
use Rattle.xp_words.specs.declared.kind.PageType.{PageType}
use Rattle.xp_words.specs.declared.kind.PageType.TheVariants as kinds
use Rattle.xp_words.specs.declared.kind.KindWord.{KindWord}
use Rattle.xp_words.specs.PageTypes.{is_table}
use Rattle.xp_words.specs.KindWords.{kind_fields}
use Rattle.xp_words.specs.RefWords.{ref_write}
use Rattle.xp_words.specs.declared.refs.RefWord.TheVariants.{Dying}
use Rattle.xp_words.specs.Machine.{Machine}
use Rattle.xp_words.specs.declared.place.Place.{Place}
use Rattle.xp_words.specs.declared.place.Place.TheVariants.{Clock, Life, Vcpu, Refs, Kind, Cell, Priv}
use Rattle.xp_words.specs.Places.{Sizes, sizes_of, place_at, flushed_of, run_of}
use Rattle.xp_board.specs.declared.holdings.Made.{Made}
use Rattle.xp_board.specs.declared.holdings.Work.{Work}
use Rattle.xp_board.specs.declared.holdings.Lock.{Lock}
use Rattle.xp_board.specs.declared.holdings.Ending.{Ending}
use Rattle.xp_board.specs.declared.holdings.Claimed.{Claimed}
use Rattle.xp_board.specs.declared.holdings.Holdings.{Holdings}
use Rattle.xp_board.specs.Lists.{EachOf}
use Rattle.xp_board.specs.Steps.{left_of, some_since, EachSince, last_since, steps_before}
use Rattle.xp_board.specs.Readings.{kind_at, is_live, is_type, owner_of, domain_of, clock_value, has_now, has_ever}
use Rattle.xp_board.specs.Knowledge.{knows_owner, knows_live, knows_partial}
use Rattle.xp_board.specs.After.{is_fixed}
use Rattle.xp_board.specs.Reach.{Use, Reads, Reach}

-- ---- the clock and flushes
-- the clock is at least each clock value and stamp that the vCPU found or left
abbrev pub ClockFound : Sizes → (Place → ℕ) → Holdings → Type 0
ClockFound z m u =
    EachOf (λ x. (clock_value (place_at z x.step.place) x.found ≤ m Clock) × (clock_value (place_at z x.step.place) (left_of x) ≤ m Clock)) u.steps

-- the `flushed` of each vCPU is at least each value that this one found or left there
abbrev pub FlushedFound : Sizes → (Place → ℕ) → Holdings → Type 0
FlushedFound z m u = (v : ℕ) → EachSince z 0 (flushed_of v) (λ w. w ≤ m (flushed_of v)) u.steps

-- a run word that it found 1 is 1
abbrev pub StoppedFound : Sizes → (Place → ℕ) → Holdings → Type 0
StoppedFound z m u = (v : ℕ) → EachSince z 0 (run_of v) (λ w. w ≡ 1 → m (run_of v) ≡ 1) u.steps

-- each clock value that it found or left after its last flush is at least its own `flushed`
abbrev pub ClockSinceAck : Sizes → (Place → ℕ) → ℕ → Holdings → Type 0
ClockSinceAck z m s u = EachSince z u.acked Clock (λ w. m (flushed_of s) ≤ w) u.steps

-- a domain that it found or left dying is dying by the same vCPU, or dead
abbrev pub LifeFound : Sizes → (Place → ℕ) → Holdings → Type 0
LifeFound z m u = (d : ℕ) → EachSince z 0 (Life d) (λ w. w ≢ 0 → (m (Life d) ≡ w) ⊎ (m (Life d) ≡ 255)) u.steps

-- ---- vCPUs that were found off
-- each clock value and stamp that these steps found or left passes
abbrev pub EachClockValue : Sizes → (ℕ → Type 0) → List Made → Type 0
EachClockValue z P steps = EachOf (λ x. P (clock_value (place_at z x.step.place) x.found) × P (clock_value (place_at z x.step.place) (left_of x))) steps

-- what this vCPU had found before it last found vCPU v off
abbrev pub before_off : Sizes → ℕ → Holdings → List Made
before_off z v u = steps_before z (run_of v) (λ w. w == 2) u.steps

-- vCPU v is off, stopped or cold, or was flushed later than each of these values
abbrev pub FlushedSinceOff : Sizes → (Place → ℕ) → (ℕ → Holdings) → ℕ → Holdings → Type 0
FlushedSinceOff z m h v u = EachClockValue z (λ y. (m (run_of v) ≢ 0) ⊎ (((h v).cold ≡ true) ⊎ (y < m (flushed_of v)))) (before_off z v u)

-- where it is cold and its run word is 0, each clock value that it found since its last Run step is at least each of these
abbrev pub ColdSinceOff : Sizes → (Place → ℕ) → (ℕ → Holdings) → ℕ → Holdings → Type 0
ColdSinceOff z m h v u =
    (h v).cold ≡ true → m (run_of v) ≡ 0 → EachClockValue z (λ y. EachSince z (h v).ran Clock (λ w. y ≤ w) (h v).steps) (before_off z v u)

-- ---- frames of which it has references
abbrev pub OwnersFound : Sizes → (Place → ℕ) → Holdings → Type 0
OwnersFound z m u = (f o : ℕ) → IsTrue (knows_owner z f o u) → owner_of (m (Refs f)) ≡ Some o

abbrev pub LivesFound : Sizes → (Place → ℕ) → Holdings → Type 0
LivesFound z m u = (f : ℕ) (t : PageType) → IsTrue (knows_live z f t u) → IsTrue (is_live (kind_at m f)) × ((kind_at m f).kind ≡ t)

abbrev pub PartialsFound : Sizes → (Place → ℕ) → Holdings → Type 0
PartialsFound z m u = (f : ℕ) (t : PageType) → IsTrue (knows_partial z f t u) → (kind_at m f).kind ≡ t

-- ---- cells
-- the same word but for bits 5 and 6, which a walk may set
abbrev pub without_bits : ℕ → ℕ
without_bits w = w / 128 * 128 + w % 32

abbrev pub is_same_entry : ℕ → ℕ → Bool
is_same_entry w x = without_bits w == without_bits x

-- of a table a walk may set bits; of a descriptor page it is the very word
abbrev pub is_same_cell : PageType → ℕ → ℕ → Bool
is_same_cell kind w x = if is_table kind then is_same_entry w x else w == x

-- the word that stands in a cell is that which the vCPU last found or left there from step n on
abbrev pub CellsFound : Sizes → (Place → ℕ) → ℕ → ℕ → (ℕ → ℕ → Bool) → List Made → Type 0
CellsFound z m n f same steps = (i w : ℕ) → last_since z n (Cell f i) steps ≡ Some w → IsTrue (same (m (Cell f i)) w)

-- ---- frames in its hand alone
-- a table or descriptor page, flushed
abbrev pub is_known_inside : KindWord → Bool
is_known_inside k = not k.unflushed && not (is_type k.kind kinds.Writable)

-- A frame in its works has the kind word that the vCPU last found or left there, and the cells; the first words
-- of a descriptor page are those found fixed. A vCPU of another domain, that was found without privilege over the
-- owner of a marked frame since the frame came into work, can but read it.
pub record WorkFound (n : Machine) (m : Place → ℕ) (h : ℕ → Holdings) (u : Holdings) (e : Work) : Type 0 where
  pub word : m (Kind e.frame) ≡ e.word
  pub cells : IsTrue (is_known_inside (kind_fields e.word)) →
      CellsFound (sizes_of n) m e.unmarked e.frame (is_same_cell (kind_fields e.word).kind) u.steps
  pub fixed : (i : ℕ) → i < e.fixed → IsTrue (is_fixed (m (Cell e.frame i)))
  pub passed : (v o : ℕ) (p : Use) → (kind_fields e.word).unflushed ≡ true → v < (sizes_of n).vcpus →
      owner_of (m (Refs e.frame)) ≡ Some o → domain_of n v ≢ o →
      IsTrue (some_since (sizes_of n) e.since (Priv (domain_of n v)) (λ w. not (has_ever o w)) u.steps) →
      Reach (sizes_of n) m (h v) e.frame p → p ≡ Reads

-- a table under its entry lock has the cells that it last found or left there
abbrev pub LockFound : Sizes → (Place → ℕ) → Holdings → Lock → Type 0
LockFound z m u e = CellsFound z m e.since e.frame is_same_entry u.steps

-- a frame that is ending has the reference word that the vCPU left there
abbrev pub EndingFound : (Place → ℕ) → Ending → Type 0
EndingFound m e = m (Refs e.frame) ≡ ref_write (Dying e.owner)

-- so has one that it claimed for its own domain d, and its cells; the first ones are scrubbed
pub record ClaimFound (z : Sizes) (m : Place → ℕ) (d : ℕ) (u : Holdings) (e : Claimed) : Type 0 where
  pub word : m (Refs e.frame) ≡ ref_write (Dying d)
  pub stamp : e.stamp ≤ m Clock
  pub cells : CellsFound z m e.since e.frame (λ w x. w == x) u.steps
  pub scrubbed : (i : ℕ) → i < e.scrubbed → m (Cell e.frame i) ≡ 0

-- ---- privileges
-- each privilege that it found in a word of a domain, now or ever, was had
abbrev pub PrivilegesFound : Sizes → (Place → ℕ) → Holdings → Type 0
PrivilegesFound z m u = (d o : ℕ) → o < 16 →
    EachSince z 0 (Priv d) (λ w. IsTrue (has_now o w || has_ever o w) → IsTrue (has_ever o (m (Priv d)))) u.steps

-- ---- the own words
-- The run word is what the vCPU last found or left there. So is, while the vCPU is not stopped, each other own word but
-- those of flushes (4 asked, 5 flushed): of these other vCPUs may write `asked`, and of a stopped vCPU they may empty the rest.
pub record OwnFound (z : Sizes) (m : Place → ℕ) (s : ℕ) (u : Holdings) : Type 0 where
  pub run : (w : ℕ) → u.run ≡ Some w → m (run_of s) ≡ w
  pub words : (k w : ℕ) → k ≢ 4 → k ≢ 5 → m (run_of s) ≢ 1 → last_since z 0 (Vcpu s k) u.steps ≡ Some w → m (Vcpu s k) ≡ w

-- ---- all of it, for vCPU s
pub record Found (n : Machine) (m : Place → ℕ) (h : ℕ → Holdings) (s : ℕ) : Type 0 where
  pub clock : ClockFound (sizes_of n) m (h s)
  pub flushed : FlushedFound (sizes_of n) m (h s)
  pub stopped : StoppedFound (sizes_of n) m (h s)
  pub life : LifeFound (sizes_of n) m (h s)
  pub since_ack : ClockSinceAck (sizes_of n) m s (h s)
  pub since_off : (v : ℕ) → v < (sizes_of n).vcpus → FlushedSinceOff (sizes_of n) m h v (h s)
  pub cold_off : (v : ℕ) → v < (sizes_of n).vcpus → ColdSinceOff (sizes_of n) m h v (h s)
  pub owners : OwnersFound (sizes_of n) m (h s)
  pub lives : LivesFound (sizes_of n) m (h s)
  pub partials : PartialsFound (sizes_of n) m (h s)
  pub works : EachOf (WorkFound n m h (h s)) (h s).works
  pub locks : EachOf (LockFound (sizes_of n) m (h s)) (h s).locks
  pub endings : EachOf (EndingFound m) (h s).ending
  pub claims : EachOf (ClaimFound (sizes_of n) m (domain_of n s) (h s)) (h s).claimed
  pub privileges : PrivilegesFound (sizes_of n) m (h s)
  pub own : OwnFound (sizes_of n) m s (h s)
