-- What each verdict of an audit says is wrong with the words of a machine, in which no vCPU holds anything.
use Rattle.std.specs.Prelude.{◌≡◌, ◌≢◌, ℕ, ◌+◌, ◌*◌, ◌<◌, ◌&&◌, ◌||◌, ◌⊎◌, nat_lt, Bool, true, false, Some, IsTrue}
use Rattle.xp_words.specs.Entries.{is_bit}
use Rattle.xp_words.specs.Machine.{Machine}
use Rattle.xp_words.specs.declared.entry.Demand.{Demand}
use Rattle.xp_words.specs.declared.entry.Demand.TheVariants.{Nothing, Bad, Read, Typed}
use Rattle.xp_words.specs.declared.kind.PageType.TheVariants as kinds
use Rattle.xp_words.specs.declared.place.Place.{Place}
use Rattle.xp_words.specs.declared.place.Place.TheVariants.{Clock, Pages, Life, Vcpu, Refs, Cell, Map}
use Rattle.xp_words.specs.Places.{sizes_of, is_place, number, map_words}
use Rattle.xp_board.specs.Spelling.{IsSpelling}
use Rattle.xp_board.specs.Sums.{sum_below}
use Rattle.xp_board.specs.After.{is_fixed}
use Rattle.xp_board.specs.Readings.{kind_at, is_live, is_locked, is_dying, is_free, ref_count, type_count, owner_of, domain_of, clock_value}
use Rattle.xp_board.specs.Recorded.{held, entry_demand, named, named_typed, is_page_of}
use Rattle.xp_board.specs.Valid.{LeadsWell, EntryPermitted, is_live_context}
use Rattle.xp_board.specs.Sound.{is_busy, DeadDomain}
use Rattle.reference_recount.specs.Recounted.{no_hands, IsMistyped}
use Rattle.walk_audit.specs.declared.verdict.Verdict.{Verdict}
use Rattle.walk_audit.specs.declared.verdict.Verdict.TheVariants as verdicts

-- ---- words
abbrev pub is_map : Place → Bool
is_map (Map k) = true
is_map _ = false

-- the word number k of the image, which is w, may not stand there; words of the map of free frames are judged by `IsWrongMap` alone
pub record IsOddWord (n : Machine) (m : Place → ℕ) (k w : ℕ) : Type 0 where
  pub place : Place
  pub real : IsTrue (is_place (sizes_of n) place)
  pub other : is_map place ≡ false
  pub stands : number (sizes_of n) place ≡ k
  pub found : m place ≡ w
  pub odd : ¬ IsSpelling n place w

-- ---- frames
-- somebody has the frame in its hand alone
pub record IsHeld (n : Machine) (m : Place → ℕ) (f : ℕ) : Type 0 where
  pub real : f < n.frames
  pub held : IsTrue ((is_busy (kind_at m f) || is_locked (kind_at m f)) || is_dying (m (Refs f)))

-- a number that is not what it has to be
pub record Differs (found want has : ℕ) : Type 0 where
  pub finds : has ≡ found
  pub other : has ≢ want

abbrev pub HasWrongRefs : Machine → (Place → ℕ) → ℕ → ℕ → ℕ → Type 0
HasWrongRefs n m f want found =
    (f < n.frames) × (want ≡ named (sizes_of n) m no_hands f) × Differs found want (ref_count (m (Refs f)))

abbrev pub HasWrongCount : Machine → (Place → ℕ) → ℕ → ℕ → ℕ → Type 0
HasWrongCount n m f want found =
    (f < n.frames) × (want ≡ named_typed (sizes_of n) m no_hands f) × Differs found want (type_count (kind_at m f))

-- ---- domains
-- the frames that the domain owns
abbrev pub pages_owned : Machine → (Place → ℕ) → ℕ → ℕ
pages_owned n m d = sum_below n.frames (λ f. is_page_of d (m (Refs f)))

abbrev pub HasWrongPages : Machine → (Place → ℕ) → ℕ → ℕ → ℕ → Type 0
HasWrongPages n m d want found =
    (d < (sizes_of n).domains) × (want ≡ pages_owned n m d) × Differs found want (m (Pages d))

pub record IsUnburied (n : Machine) (m : Place → ℕ) (d : ℕ) : Type 0 where
  pub real : d < (sizes_of n).domains
  pub dead : m (Life d) ≡ 255
  pub left : ¬ DeadDomain n m no_hands d

-- ---- entries and descriptors
-- the machine has frame g, and an entry of table f may lead there
abbrev pub MayLead : Machine → (Place → ℕ) → ℕ → ℕ → Type 0
MayLead n m f g = (g < n.frames) × EntryPermitted m (kind_at m f).kind (owner_of (m (Refs f))) g

-- entry i may do so with a type
abbrev pub MayLeadTyped : Machine → (Place → ℕ) → ℕ → ℕ → ℕ → Type 0
MayLeadTyped n m f i g = MayLead n m f g × LeadsWell (sizes_of n) m no_hands f i g

-- what recorded entry i of frame f asks may be asked there
abbrev pub MayBeAsked : Machine → (Place → ℕ) → ℕ → ℕ → Demand → Type 0
MayBeAsked n m f i Nothing = Unit {0}
MayBeAsked n m f i Bad = ⊥
MayBeAsked n m f i (Read g) = MayLead n m f g
MayBeAsked n m f i (Typed g t) = MayLeadTyped n m f i g

-- a recorded entry that asks what it may not
pub record IsBadRecorded (n : Machine) (m : Place → ℕ) (f i : ℕ) : Type 0 where
  pub recorded : i < held (sizes_of n) m no_hands f
  pub bad : ¬ MayBeAsked n m f i (entry_demand m f i)

-- a word of a live descriptor page that is not fixed
pub record IsUnfixed (m : Place → ℕ) (f i : ℕ) : Type 0 where
  pub live : IsTrue (is_live (kind_at m f))
  pub descriptors : (kind_at m f).kind ≡ kinds.Desc
  pub few : i < 512
  pub unfixed : is_fixed (m (Cell f i)) ≡ false

abbrev pub IsBadEntry : Machine → (Place → ℕ) → ℕ → ℕ → Type 0
IsBadEntry n m f i = (f < n.frames) × (IsBadRecorded n m f i ⊎ IsUnfixed m f i)

-- ---- words of vCPUs
-- word k of vCPU v has to name a live frame of its domain or none, and names another one
pub record IsBadContext (n : Machine) (m : Place → ℕ) (v k : ℕ) : Type 0 where
  pub real : v < (sizes_of n).vcpus
  pub few : k < 38
  pub context : IsTrue (is_live_context k)
  pub frame : ℕ
  pub names : m (Vcpu v k) ≡ frame + 1
  pub bad : ¬ (IsTrue (is_live (kind_at m frame)) × (owner_of (m (Refs frame)) ≡ Some (domain_of n v)))

-- ---- stamps
-- the word number k of the image tells a clock value above the clock
pub record IsLate (n : Machine) (m : Place → ℕ) (k : ℕ) : Type 0 where
  pub place : Place
  pub real : IsTrue (is_place (sizes_of n) place)
  pub stands : number (sizes_of n) place ≡ k
  pub late : m Clock < clock_value place (m place)

-- ---- the map of free frames
-- a frame of the machine that is free
abbrev pub is_free_frame : Machine → (Place → ℕ) → ℕ → Bool
is_free_frame n m f = nat_lt f n.frames && is_free (m (Refs f))

-- a bit of word k that is not that of a free frame, or is not set where it is
pub record IsWrongMap (n : Machine) (m : Place → ℕ) (k : ℕ) : Type 0 where
  pub real : k < map_words (sizes_of n)
  pub bit : ℕ
  pub few : bit < 64
  pub wrong : is_bit bit (m (Map k)) ≢ is_free_frame n m (64 * k + bit)

-- ---- all of them
abbrev pub Breaks : Machine → (Place → ℕ) → Verdict → Type 0
Breaks n m verdicts.Sound = ⊥
Breaks n m (verdicts.Word k w) = IsOddWord n m k w
Breaks n m (verdicts.Held f) = IsHeld n m f
Breaks n m (verdicts.Refs f want found) = HasWrongRefs n m f want found
Breaks n m (verdicts.Count f want found) = HasWrongCount n m f want found
Breaks n m (verdicts.OtherKind f) = (f < n.frames) × IsMistyped n m f
Breaks n m (verdicts.Pages d want found) = HasWrongPages n m d want found
Breaks n m (verdicts.BadEntry f i) = IsBadEntry n m f i
Breaks n m (verdicts.Context v k) = IsBadContext n m v k
Breaks n m (verdicts.Stamp k) = IsLate n m k
Breaks n m (verdicts.Dead d) = IsUnburied n m d
Breaks n m (verdicts.Map k) = IsWrongMap n m k
