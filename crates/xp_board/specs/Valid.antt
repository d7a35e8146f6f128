-- What recorded entries and words of vCPUs lead to.
use Rattle.std.specs.Prelude.{◌≡◌, ◌≢◌, ℕ, ◌+◌, ◌<◌, ◌&&◌, ◌||◌, ◌⊎◌, not, nat_lt, Bool, false, Option, Some, None, IsTrue}
use Rattle.xp_words.specs.declared.kind.PageType.{PageType}
use Rattle.xp_words.specs.declared.kind.PageType.TheVariants as kinds
use Rattle.xp_words.specs.declared.entry.Demand.TheVariants.{Bad, Read, Typed}
use Rattle.xp_words.specs.Entries.{is_lowest}
use Rattle.xp_words.specs.Machine.{Machine}
use Rattle.xp_words.specs.declared.place.Place.{Place}
use Rattle.xp_words.specs.declared.place.Place.TheVariants.{Vcpu, Refs, Kind, Cell, Priv}
use Rattle.xp_words.specs.Places.{Sizes, sizes_of}
use Rattle.xp_board.specs.declared.holdings.Unsettled.{Unsettled}
use Rattle.xp_board.specs.declared.holdings.Work.{Work}
use Rattle.xp_board.specs.declared.holdings.Holdings.{Holdings}
use Rattle.xp_board.specs.Steps.{some_since}
use Rattle.xp_board.specs.Readings.{kind_at, is_live, is_partial, is_work, is_live_word, is_context, owner_of, domain_of, has_ever}
use Rattle.xp_board.specs.Hands.{work_on}
use Rattle.xp_board.specs.Recorded.{held, entry_demand}
use Rattle.xp_board.specs.After.{is_fixed}

-- ---- validity
-- the last recorded entry of a table in that work is unsettled, and the vCPU has not found its frame g live since
pub record IsUnsettled (z : Sizes) (h : ℕ → Holdings) (f i g : ℕ) : Type 0 where
  pub vcpu : ℕ
  pub real : vcpu < z.vcpus
  pub work : Work
  pub here : work_on f (h vcpu).works ≡ Some work
  pub last : i + 1 ≡ work.recorded
  pub unsettled : Unsettled
  pub kept : work.unsettled ≡ Some unsettled
  pub unfound : some_since z unsettled.since (Kind g) is_live_word (h vcpu).steps ≡ false

-- the last recorded entry of a partial table
pub record IsLastOfPartial (m : Place → ℕ) (f i : ℕ) : Type 0 where
  pub partial : IsTrue (is_partial (kind_at m f))
  pub last : i + 1 ≡ (kind_at m f).progress

-- live; but the last recorded entry of a partial table, and an unsettled one, may lead to what is partial or in work
abbrev pub LeadsWell : Sizes → (Place → ℕ) → (ℕ → Holdings) → ℕ → ℕ → ℕ → Type 0
LeadsWell z m h f i g =
    IsTrue (is_live (kind_at m g))
    ⊎ (IsTrue (is_partial (kind_at m g) || is_work (kind_at m g)) × (IsLastOfPartial m f i ⊎ IsUnsettled z h f i g))

-- a word of a vCPU whose frame has to be live
abbrev pub is_live_context : ℕ → Bool
is_live_context k = is_context k && not (nat_lt 1 k && nat_lt k 4)

pub record Valid (z : Sizes) (m : Place → ℕ) (h : ℕ → Holdings) : Type 0 where
  pub allowed : (f i : ℕ) → i < held z m h f → entry_demand m f i ≢ Bad
  pub live : (f i g : ℕ) (t : PageType) → i < held z m h f → entry_demand m f i ≡ Typed g t → LeadsWell z m h f i g
  pub fixed : (f i : ℕ) → IsTrue (is_live (kind_at m f)) → (kind_at m f).kind ≡ kinds.Desc → i < 512 → IsTrue (is_fixed (m (Cell f i)))
  pub contexts : (v k g : ℕ) → v < z.vcpus → k < 38 → IsTrue (is_live_context k) → m (Vcpu v k) ≡ g + 1 → IsTrue (is_live (kind_at m g))

-- ---- permits
-- free, its own, or of a domain over which it has or had privilege
abbrev pub PermitsOwner : (Place → ℕ) → ℕ → Option ℕ → Type 0
PermitsOwner m d (Some o) = (o ≡ d) ⊎ IsTrue (has_ever o (m (Priv d)))
PermitsOwner m d None = Unit {0}

abbrev pub Permits : (Place → ℕ) → ℕ → ℕ → Type 0
Permits m d g = PermitsOwner m d (owner_of (m (Refs g)))

-- entries of levels 2 to 4 lead to frames of the table's owner, those of level 1 to frames that it is permitted
abbrev pub EntryPermitted : (Place → ℕ) → PageType → Option ℕ → ℕ → Type 0
EntryPermitted m kind (Some d) g =
    (owner_of (m (Refs g)) ≡ Some d) ⊎ (IsTrue (is_lowest kind) × Permits m d g)
EntryPermitted m kind None g = ⊥

pub record Permitted (n : Machine) (m : Place → ℕ) (h : ℕ → Holdings) : Type 0 where
  pub typed : (f i g : ℕ) (t : PageType) → i < held (sizes_of n) m h f → entry_demand m f i ≡ Typed g t →
      EntryPermitted m (kind_at m f).kind (owner_of (m (Refs f))) g
  pub plain : (f i g : ℕ) → i < held (sizes_of n) m h f → entry_demand m f i ≡ Read g →
      EntryPermitted m (kind_at m f).kind (owner_of (m (Refs f))) g
  pub contexts : (v k g : ℕ) → v < (sizes_of n).vcpus → k < 38 → IsTrue (is_live_context k) → m (Vcpu v k) ≡ g + 1 →
      owner_of (m (Refs g)) ≡ Some (domain_of n v)
