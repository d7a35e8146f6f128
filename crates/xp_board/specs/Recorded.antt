-- The references that are recorded: by entries of tables, words of vCPUs, marks of frames and hands of vCPUs.
-- Each frame's two counts are the numbers of those that name it.
use Rattle.std.specs.Prelude.{◌≡◌, ℕ, zero, suc, ◌+◌, ◌<◌, if◌then◌else◌, List, Option, Some, None, IsTrue}
use Rattle.xp_words.specs.declared.kind.PageType.{PageType}
use Rattle.xp_words.specs.declared.kind.KindWord.{KindWord}
use Rattle.xp_words.specs.declared.entry.Demand.{Demand}
use Rattle.xp_words.specs.declared.entry.Demand.TheVariants.{Nothing, Bad, Read, Typed}
use Rattle.xp_words.specs.Entries.{demand_at}
use Rattle.xp_words.specs.PageTypes.{is_table}
use Rattle.xp_words.specs.RefWords.{bit}
use Rattle.xp_words.specs.declared.place.Place.{Place}
use Rattle.xp_words.specs.declared.place.Place.TheVariants.{Pages, Vcpu, Refs, Cell}
use Rattle.xp_words.specs.Places.{Sizes}
use Rattle.xp_board.specs.declared.holdings.Work.{Work}
use Rattle.xp_board.specs.declared.holdings.Holdings.{Holdings}
use Rattle.xp_board.specs.Lists.{one_at, times, EachOf}
use Rattle.xp_board.specs.Sums.{sum_below}
use Rattle.xp_board.specs.Readings.{kind_at, ref_count, allocated_mark, type_count, is_context, is_owned_by}
use Rattle.xp_board.specs.Hands.{work_on, hand, typed_hand}
use Rattle.xp_board.specs.ContextSteps.{context_type}

-- ---- how many leading entries of a table are recorded
abbrev pub recorded_number : Option Work → Option ℕ
recorded_number (Some e) = Some e.recorded
recorded_number None = None

-- as the vCPU that has the frame in its works has recorded them
unfoldable pub recorded_in : List Work → ℕ → Option ℕ
recorded_in works f = recorded_number (work_on f works)

abbrev pub or_else : Option ℕ → Option ℕ → Option ℕ
or_else (Some n) other = Some n
or_else None other = other

-- the same over the first n vCPUs
unfoldable pub work_of : ℕ → (ℕ → Holdings) → ℕ → Option ℕ
work_of zero h f = None
work_of (suc n) h f = or_else (recorded_in (h n).works f) (work_of n h f)

-- without a vCPU that works on it: all of a live table, and as many as a partial one says
abbrev pub held_by_form : KindWord → Option ℕ → ℕ
held_by_form k (Some n) = n
held_by_form k None = if k.validated then 512 else if k.partial then k.progress else 0

unfoldable pub held_of : KindWord → Option ℕ → ℕ
held_of k o = if is_table k.kind then held_by_form k o else 0

abbrev pub held : Sizes → (Place → ℕ) → (ℕ → Holdings) → ℕ → ℕ
held z m h f = held_of (kind_at m f) (work_of z.vcpus h f)

-- what entry i of frame f asks, if the frame is a table
abbrev pub entry_demand : (Place → ℕ) → ℕ → ℕ → Demand
entry_demand m f i = demand_at (kind_at m f).kind i (m (Cell f i))

-- ---- how often a frame is named
-- 1 where the demand names the frame
unfoldable pub names : ℕ → Demand → ℕ
names g Nothing = 0
names g Bad = 0
names g (Read f) = one_at g f
names g (Typed f kind) = one_at g f

-- 1 where it asks its type too
unfoldable pub names_typed : ℕ → Demand → ℕ
names_typed g Nothing = 0
names_typed g Bad = 0
names_typed g (Read f) = 0
names_typed g (Typed f kind) = one_at g f

-- the recorded entries of one table, each counted by c
unfoldable pub table_entries : (Demand → ℕ) → (Place → ℕ) → Option ℕ → ℕ → ℕ
table_entries c m o f = sum_below (held_of (kind_at m f) o) (λ i. c (entry_demand m f i))

-- the recorded entries of all tables
unfoldable pub entries : (Demand → ℕ) → Sizes → (Place → ℕ) → (ℕ → Holdings) → ℕ
entries c z m h = sum_below z.frames (λ f. table_entries c m (work_of z.vcpus h f) f)

-- the words of all vCPUs that name the frame
unfoldable pub contexts : Sizes → (Place → ℕ) → ℕ → ℕ
contexts z m g = sum_below z.vcpus (λ v. sum_below 38 (λ k. if is_context k then one_at (g + 1) (m (Vcpu v k)) else 0))

-- pinned and kept
unfoldable pub marks : KindWord → ℕ
marks k = bit k.pinned + bit k.kept

-- what c counts in the hands of all vCPUs
unfoldable pub hands : (Holdings → ℕ) → Sizes → (ℕ → Holdings) → ℕ
hands c z h = sum_below z.vcpus (λ s. c (h s))

abbrev pub named : Sizes → (Place → ℕ) → (ℕ → Holdings) → ℕ → ℕ
named z m h g = entries (names g) z m h + contexts z m g + allocated_mark (m (Refs g)) + marks (kind_at m g) + hands (hand g) z h

abbrev pub named_typed : Sizes → (Place → ℕ) → (ℕ → Holdings) → ℕ → ℕ
named_typed z m h g = entries (names_typed g) z m h + contexts z m g + marks (kind_at m g) + hands (typed_hand g) z h

-- ---- the type of each typed reference
abbrev pub HasType : (Place → ℕ) → ℕ → Option PageType → Type 0
HasType m g (Some t) = (kind_at m g).kind ≡ t
HasType m g None = Unit {0}

-- it is that of its frame
pub record TypesAgree (z : Sizes) (m : Place → ℕ) (h : ℕ → Holdings) : Type 0 where
  pub entries : (f i g : ℕ) (t : PageType) → i < held z m h f → entry_demand m f i ≡ Typed g t → (kind_at m g).kind ≡ t
  pub contexts : (v k g : ℕ) → v < z.vcpus → k < 38 → IsTrue (is_context k) → m (Vcpu v k) ≡ g + 1 → HasType m g (context_type k)
  pub typed : (s : ℕ) → s < z.vcpus → EachOf (λ e. HasType m e.frame e.kind) (h s).typed
  pub locks : (s : ℕ) → s < z.vcpus → EachOf (λ e. HasType m e.frame (Some e.kind)) (h s).locks

-- ---- counts
-- 1 where the domain owns the frame
abbrev pub is_page_of : ℕ → ℕ → ℕ
is_page_of d w = bit (is_owned_by d w)

-- A frame that is free, or that the machine has not, has no count and so no reference.
pub record CountsAgree (z : Sizes) (m : Place → ℕ) (h : ℕ → Holdings) : Type 0 where
  pub refs : (g : ℕ) → ref_count (m (Refs g)) ≡ named z m h g
  pub types : (g : ℕ) → type_count (kind_at m g) ≡ named_typed z m h g
  pub kinds : TypesAgree z m h
  pub pages : (d : ℕ) → d < z.domains → m (Pages d) ≡ sum_below z.frames (λ f. is_page_of d (m (Refs f))) + hands (λ u. times d u.credits) z h
