-- The machine between any two steps of any vCPUs: what every legal step keeps.
use Rattle.std.specs.Prelude.{◌≡◌, ◌≢◌, ℕ, ◌+◌, ◌/◌, ◌%◌, ◌^◌, ◌<◌, ◌≤◌, ◌==◌, ◌||◌, ◌⊎◌, not, Bool, true, false, List, [], length, slice_index_or, Some, None, IsTrue}
use Rattle.xp_words.specs.declared.kind.KindWord.{KindWord}
use Rattle.xp_words.specs.KindWords.{kind_fields}
use Rattle.xp_words.specs.RefWords.{bit}
use Rattle.xp_words.specs.Entries.{is_bit}
use Rattle.xp_words.specs.Machine.{Machine, IsMachine}
use Rattle.xp_words.specs.declared.place.Place.{Place}
use Rattle.xp_words.specs.declared.place.Place.TheVariants.{Clock, Life, Vcpu, Refs, Kind, Map}
use Rattle.xp_words.specs.Places.{sizes_of, is_place, memory, size, flushed_of, run_of}
use Rattle.xp_board.specs.declared.holdings.Work.{Work}
use Rattle.xp_board.specs.declared.holdings.Looking.{Looking}
use Rattle.xp_board.specs.declared.holdings.Holdings.{Holdings}
use Rattle.xp_board.specs.Lists.{times, EachOf, Member}
use Rattle.xp_board.specs.Steps.{some_since, some_before, some_between}
use Rattle.xp_board.specs.Readings.{kind_at, is_work, is_closing, is_locked, is_dying, is_free, is_context, is_owned_by, owner_of, domain_of, free_stamp, kind_stamp}
use Rattle.xp_board.specs.Hands.{refs_to, works_on, locks_on, endings_of, claims_of, IsEmptyHand, empty}
use Rattle.xp_board.specs.Spelling.{IsSpelling}
use Rattle.xp_board.specs.LifeSteps.{HasStopped, is_unallocated, is_unpinned, is_unkept}
use Rattle.xp_board.specs.Recorded.{CountsAgree, hands}
use Rattle.xp_board.specs.Valid.{Valid, Permitted}
use Rattle.xp_board.specs.Fresh.{Fresh}
use Rattle.xp_board.specs.Found.{Found}
use Rattle.xp_board.specs.WellFormed.{WellFormed}

-- ---- spellings
-- Each word is a spelling, and no word is above 64 bits. Places that the machine has not read as 0.
pub record Spelled (n : Machine) (m : Place → ℕ) : Type 0 where
  pub small : (p : Place) → m p < 2 ^ 64
  pub outside : (p : Place) → is_place (sizes_of n) p ≡ false → m p ≡ 0
  pub spelled : (p : Place) → IsTrue (is_place (sizes_of n) p) → IsSpelling n p (m p)

-- ---- who has a frame in its hand alone
abbrev pub is_busy : KindWord → Bool
is_busy k = is_work k || is_closing k

-- A frame that is in work, closing, locked or dying stands once in one vCPU's works, locks, endings or claims,
-- and no other frame stands there. (That a locked one is live with a count above 0 is its spelling.)
pub record HeldAlone (n : Machine) (m : Place → ℕ) (h : ℕ → Holdings) : Type 0 where
  pub works : (f : ℕ) → hands (λ u. works_on f u.works) (sizes_of n) h ≡ bit (is_busy (kind_at m f))
  pub locks : (f : ℕ) → hands (λ u. locks_on f u.locks) (sizes_of n) h ≡ bit (is_locked (kind_at m f))
  pub dying : (f : ℕ) → hands (λ u. endings_of f u.ending + claims_of f u.claimed) (sizes_of n) h ≡ bit (is_dying (m (Refs f)))

-- nothing is recorded of a marked frame, and a closing one keeps an untyped reference
pub record WorkAgrees (u : Holdings) (e : Work) : Type 0 where
  pub marked : (kind_fields e.word).unflushed ≡ true → e.recorded ≡ 0
  pub closing : IsTrue (is_closing (kind_fields e.word)) → 0 < refs_to e.frame u.refs

-- ---- stamps, and vCPUs that do not run
pub record Stamped (n : Machine) (m : Place → ℕ) : Type 0 where
  pub flushed : (v : ℕ) → m (flushed_of v) ≤ m Clock
  pub free : (f : ℕ) → free_stamp (m (Refs f)) ≤ m Clock
  pub kinds : (f : ℕ) → kind_stamp (m (Kind f)) ≤ m Clock

pub record Idle (n : Machine) (m : Place → ℕ) (h : ℕ → Holdings) (v : ℕ) : Type 0 where
  pub hand : m (run_of v) ≢ 0 → IsEmptyHand (h v)
  pub cache : m (run_of v) ≢ 0 → (h v).cache ≡ []
  pub walk : m (run_of v) ≢ 0 → (h v).walk ≡ None
  pub cold_cache : (h v).cold ≡ true → (h v).cache ≡ []
  pub cold_walk : (h v).cold ≡ true → (h v).walk ≡ None

-- ---- dead and dying domains
-- a vCPU that has set `kept` on the frame for domain d, and has not yet looked whether d lives
pub record IsLookedAt (n : Machine) (m : Place → ℕ) (h : ℕ → Holdings) (d f : ℕ) : Type 0 where
  pub vcpu : ℕ
  pub real : vcpu < (sizes_of n).vcpus
  pub looking : Looking
  pub here : Member looking (h vcpu).looking
  pub frame : looking.frame ≡ f
  pub owner : looking.owner ≡ d
  pub word : looking.word ≡ m (Kind f)

abbrev pub KeptForNobody : Machine → (Place → ℕ) → (ℕ → Holdings) → ℕ → ℕ → Type 0
KeptForNobody n m h d f = IsTrue (is_unkept (m (Kind f))) ⊎ IsLookedAt n m h d f

pub record DeadDomain (n : Machine) (m : Place → ℕ) (h : ℕ → Holdings) (d : ℕ) : Type 0 where
  pub unallocated : (f : ℕ) → owner_of (m (Refs f)) ≡ Some d → IsTrue (is_unallocated (m (Refs f)))
  pub unpinned : (f : ℕ) → owner_of (m (Refs f)) ≡ Some d → IsTrue (is_unpinned (m (Kind f)))
  pub unkept : (f : ℕ) → owner_of (m (Refs f)) ≡ Some d → KeptForNobody n m h d f
  pub empty : (v k : ℕ) → v < (sizes_of n).vcpus → domain_of n v ≡ d → k < 38 → IsTrue (is_context k) → m (Vcpu v k) ≡ 0
  pub stopped : (v : ℕ) → v < (sizes_of n).vcpus → domain_of n v ≡ d → m (run_of v) ≡ 1

-- While d is dying: what its destroying vCPU s has found so, or made so, since it stored the life word. Context
-- words count from when their vCPU was found stopped, marks and owners from when all vCPUs of d were. (That a
-- vCPU found stopped is stopped holds for all vCPUs, among what was found.)
pub record DyingDomain (n : Machine) (m : Place → ℕ) (h : ℕ → Holdings) (d s : ℕ) : Type 0 where
  pub empty : (v k a b : ℕ) → domain_of n v ≡ d → k < 38 → IsTrue (is_context k) →
      IsTrue (some_before (sizes_of n) a (Life d) (λ w. w == s + 1) (h s).steps) → a ≤ b →
      IsTrue (some_between (sizes_of n) a b (run_of v) (λ w. w == 1) (h s).steps) →
      IsTrue (some_since (sizes_of n) b (Vcpu v k) (λ w. w == 0) (h s).steps) → m (Vcpu v k) ≡ 0
  pub unallocated : (f a : ℕ) → HasStopped n s d a (h s) → owner_of (m (Refs f)) ≡ Some d →
      IsTrue (some_since (sizes_of n) a (Refs f) is_unallocated (h s).steps) → IsTrue (is_unallocated (m (Refs f)))
  pub unpinned : (f a : ℕ) → HasStopped n s d a (h s) → owner_of (m (Refs f)) ≡ Some d →
      IsTrue (some_since (sizes_of n) a (Kind f) is_unpinned (h s).steps) → IsTrue (is_unpinned (m (Kind f)))
  pub unkept : (f a : ℕ) → HasStopped n s d a (h s) → owner_of (m (Refs f)) ≡ Some d →
      IsTrue (some_since (sizes_of n) a (Kind f) is_unkept (h s).steps) → KeptForNobody n m h d f
  pub other : (f a : ℕ) → HasStopped n s d a (h s) →
      IsTrue (some_since (sizes_of n) a (Refs f) (λ w. not (is_owned_by d w)) (h s).steps) → is_owned_by d (m (Refs f)) ≡ false

pub record Domains (n : Machine) (m : Place → ℕ) (h : ℕ → Holdings) : Type 0 where
  pub dead : (d : ℕ) → d < (sizes_of n).domains → m (Life d) ≡ 255 → DeadDomain n m h d
  pub dying : (d s : ℕ) → d < (sizes_of n).domains → s < (sizes_of n).vcpus → m (Life d) ≡ s + 1 → DyingDomain n m h d s

-- ---- the map of free frames
-- whether the bit of frame f is set
abbrev pub is_hinted : (Place → ℕ) → ℕ → Bool
is_hinted m f = is_bit (f % 64) (m (Map (f / 64)))

-- the bit of each free frame is set, and that of each raised one; no other
pub record FreeMap (n : Machine) (m : Place → ℕ) (h : ℕ → Holdings) : Type 0 where
  pub bits : (f : ℕ) → f < (sizes_of n).frames →
      bit (is_hinted m f) ≡ bit (is_free (m (Refs f))) + hands (λ u. times f u.raised) (sizes_of n) h

-- ---- the whole
pub record Sound (n : Machine) (m : Place → ℕ) (h : ℕ → Holdings) : Type 0 where
  pub machine : IsMachine n
  -- words, and the references that they count
  pub spelled : Spelled n m
  pub counts : CountsAgree (sizes_of n) m h
  -- what entries and words of vCPUs lead to
  pub valid : Valid (sizes_of n) m h
  pub permitted : Permitted n m h
  -- hands
  pub alone : HeldAlone n m h
  pub works : (s : ℕ) → s < (sizes_of n).vcpus → EachOf (WorkAgrees (h s)) (h s).works
  pub found : (s : ℕ) → s < (sizes_of n).vcpus → Found n m h s
  pub formed : (s : ℕ) → s < (sizes_of n).vcpus → WellFormed n s (h s)
  -- flushes and translations
  pub stamped : Stamped n m
  pub idle : (v : ℕ) → v < (sizes_of n).vcpus → Idle n m h v
  pub fresh : Fresh n m h
  -- domains
  pub domains : Domains n m h
  -- the map of free frames
  pub map : FreeMap n m h

-- ---- words and lists of holdings
-- the holdings of vCPU s; empty where there is no such vCPU
abbrev pub hand_of : List Holdings → ℕ → Holdings
hand_of hands s = slice_index_or hands s empty

pub record SoundState (n : Machine) (words : List ℕ) (hands : List Holdings) : Type 0 where
  pub all_words : length words ≡ size (sizes_of n)
  pub all_hands : length hands ≡ (sizes_of n).vcpus
  pub sound : Sound n (memory (sizes_of n) words) (hand_of hands)

-- words that are sound with empty hands and caches, and no step made
pub record SoundWords (n : Machine) (words : List ℕ) : Type 0 where
  pub all_words : length words ≡ size (sizes_of n)
  pub sound : Sound n (memory (sizes_of n) words) (λ s. empty)
