-- One descriptor written for the guest: what it asks, what a guest sees of it, why it is not written, and by which calls.
use Rattle.std.specs.Prelude.{◌≡◌, ◌⊎◌, ℕ, ◌/◌, ◌%◌, ◌==◌, if◌then◌else◌, false, List, [], ◌∷◌, Option, Some, None, Result, Ok, Err, IfErr}
use Rattle.xp_words.specs.Entries.{fixed}
use Rattle.xp_words.specs.declared.kind.PageType.{PageType}
use Rattle.xp_words.specs.declared.kind.PageType.TheVariants.{Desc, Writable}
use Rattle.xp_words.specs.declared.place.Place.TheVariants.{Cell, Kind}
use Rattle.xp_words.specs.declared.reply.Refusal.{Refusal}
use Rattle.xp_words.specs.declared.reply.Refusal.TheVariants as refusals
use Rattle.xp_words.specs.declared.reply.Stop.{Stop}
use Rattle.xp_words.specs.declared.reply.Stop.TheVariants.{Refused}
use Rattle.xp_board.specs.declared.step.Act.TheVariants.{Load, Store}
use Rattle.xp_board.specs.declared.step.StepKind.TheVariants as kinds
use Rattle.xp_board.specs.Readings.{is_live_as}
use Rattle.xp_board.specs.Told.{PortValue}
use Rattle.step_maker.specs.Holds.{FlushedHolds, FlushedSame, Rests}
use Rattle.step_maker.specs.Moves.{Came, Moves}
use Rattle.step_maker.specs.Answers.{Deed, Serves, Stops, Writes, missed, misses}
use Rattle.step_maker.specs.Asked.{Request, of_table}
use Rattle.frame_words.specs.Freeing.{gave}
use Rattle.frame_types.specs.Taking.{LentBy, typed_as}
use Rattle.table_entries.specs.Acquiring.{GaveRef, GaveType, GotRef}
use Rattle.writable_pages.specs.Pages.{TookPage}
use Rattle.desc_pages.specs.Names.{own_domain}
use Rattle.desc_pages.specs.Pages.{IsDescStop, IsShort, IsTakenStop, TookDesc}

-- ---- by its numbers
abbrev pub frame_at : ℕ → ℕ
frame_at address = address / 4096

abbrev pub index_at : ℕ → ℕ
index_at address = address % 4096 / 8

abbrev pub descriptor_refusal : ℕ → Option Refusal
descriptor_refusal address = if address % 8 == 0 then None else Some refusals.BadRange

-- ---- what it asks: the frame for that type; it writes that word of it, and as a descriptor page its words are read
abbrev pub of_cell : ℕ → ℕ → ℕ → ℕ → PageType → Option Refusal → Request
of_cell d f i word want by = record (of_table f d (Some want) d false) { index = Some i; descriptor = Some word; by_numbers = by }

abbrev pub of_descriptor : ℕ → ℕ → ℕ → PageType → Request
of_descriptor d address word want = of_cell d (frame_at address) (index_at address) word want (descriptor_refusal address)

-- a frame that was found live as a descriptor page stays one; any other is to be ordinary memory
abbrev pub descriptor_type : ℕ → PageType
descriptor_type x = if is_live_as Desc x then Desc else Writable

abbrev pub IsDescriptorType : PageType → Type 0
IsDescriptorType want = (want ≡ Desc) ⊎ (want ≡ Writable)

-- ---- what a guest sees: where it is done the fixed form of the word, stored
abbrev pub writes_fixed : ℕ → ℕ → Option ℕ → List Deed
writes_fixed f i (Some new) = Writes f i new ∷ []
writes_fixed f i None = []

abbrev pub descriptor_deeds : PortValue → ℕ → ℕ → Result (Unit {0}) Stop → List Deed
descriptor_deeds v address word (Ok done) = writes_fixed (frame_at address) (index_at address) (fixed word)
descriptor_deeds v address word (Err e) = missed v.post.machine e

abbrev pub IsDescriptorStop : Stop → Type 0
IsDescriptorStop (Refused refusals.BadRange) = Unit {0}
IsDescriptorStop e = IsDescStop e

-- ---- by its calls
-- the frame is taken for that type, under the reference in hand
pub data TookAs (v : PortValue) (f owner : ℕ) : PageType → PortValue → Result (Unit {0}) Stop → Type 0 where
  as_desc : (w : PortValue) (answer : Result (Unit {0}) Stop) → TookDesc v f owner w answer → TookAs v f owner Desc w answer
  as_memory : (w : PortValue) (answer : Result (Unit {0}) Stop) → TookPage v f owner w answer → TookAs v f owner Writable w answer

abbrev pub SawKind : PortValue → PortValue → ℕ → ℕ → Type 0
SawKind v w f found = Moves v w (Kind f) Load kinds.Look None found

-- The kind word is looked at, the frame taken for the type that this asks, the word stored, and the type given back.
pub data StoredUnder (v : PortValue) (f owner i new : ℕ) (want : PageType) (w : PortValue) : Result (Unit {0}) Stop → Type 0 where
  untaken : (x : PortValue) (found : ℕ) (stop : Stop) → SawKind v x f found → want ≡ descriptor_type found → TookAs x f owner want w (Err stop) → StoredUnder v f owner i new want w (Err stop)
  stored : (x y z : PortValue) (found old : ℕ) → SawKind v x f found → want ≡ descriptor_type found → TookAs x f owner want y (Ok tt) → Moves y z (Cell f i) (Store new) kinds.Cell None old → GaveType z w f want →
      StoredUnder v f owner i new want w (Ok tt)

pub data UpdatesDescriptor (v : PortValue) (address word : ℕ) : PageType → PortValue → Result (Unit {0}) Stop → Type 0 where
  barred : (x : Refusal) → descriptor_refusal address ≡ Some x → UpdatesDescriptor v address word Writable v (Err (Refused x))
  unreferred : (w : PortValue) (stop : Stop) → descriptor_refusal address ≡ None → GotRef v w (frame_at address) (own_domain v) (Err stop) → UpdatesDescriptor v address word Writable w (Err stop)
  unfixed : (u w : PortValue) → descriptor_refusal address ≡ None → GotRef v u (frame_at address) (own_domain v) (Ok (frame_at address)) → fixed word ≡ None → GaveRef u w (frame_at address) →
      UpdatesDescriptor v address word Writable w (Err (Refused (refusals.BadDescriptor (frame_at address) (index_at address) word)))
  referred : (u w : PortValue) (new : ℕ) (want : PageType) (answer : Result (Unit {0}) Stop) → descriptor_refusal address ≡ None → GotRef v u (frame_at address) (own_domain v) (Ok (frame_at address)) → fixed word ≡ Some new →
      StoredUnder u (frame_at address) (own_domain v) (index_at address) new want w answer → UpdatesDescriptor v address word want w answer

-- ---- the whole call
-- Its steps serve what it asks, of the type that the kind word asked, show why it is refused or paused, leave nothing in hand, and are these
-- calls.
pub record DescriptorUpdated (v w : PortValue) (address word : ℕ) (answer : Result (Unit {0}) Stop) : Type 0 where
  pub want : PageType
  pub came : Came v w
  pub serves : Serves v w (of_descriptor (own_domain v) address word want) (descriptor_deeds v address word answer)
  pub stops : IfErr answer (λ e. Stops v w (of_descriptor (own_domain v) address word want) e)
  pub kinds : IfErr answer IsDescriptorStop
  pub numbers : (x : Refusal) → descriptor_refusal address ≡ Some x → answer ≡ Err (Refused x)
  pub hand : FlushedSame v w
  pub rests : Rests w
  pub course : UpdatesDescriptor v address word want w answer
  pub short : IsShort v w 1060

-- ---- between the calls
-- the newest untyped reference is to that frame, and there is none with a type; nothing is in work, locked, claimed or looked for
pub record HoldsLent (v : PortValue) (f owner : ℕ) : Type 0 where
  pub lent : LentBy f owner v.holdings
  pub typed : v.holdings.typed ≡ []
  pub works : v.holdings.works ≡ []
  pub locks : v.holdings.locks ≡ []
  pub claimed : v.holdings.claimed ≡ []
  pub looking : v.holdings.looking ≡ []

-- the reference became a typed one, or is given back
abbrev pub LeavesAs : PortValue → PortValue → ℕ → ℕ → PageType → Result (Unit {0}) Stop → Type 0
LeavesAs v w f owner want (Ok done) = FlushedHolds v w (typed_as f owner want v.holdings)
LeavesAs v w f owner want (Err e) = FlushedHolds v w (gave f v.holdings)

pub record TakesAs (v w : PortValue) (f owner : ℕ) (want : PageType) (answer : Result (Unit {0}) Stop) : Type 0 where
  pub came : Came v w
  pub serves : Serves v w (of_table f owner (Some want) owner false) (misses v.post.machine answer)
  pub stops : IfErr answer (λ e. Stops v w (of_table f owner (Some want) owner false) e)
  pub kinds : IfErr answer IsTakenStop
  pub hand : LeavesAs v w f owner want answer
  pub course : TookAs v f owner want w answer

abbrev pub cell_deeds : PortValue → ℕ → ℕ → ℕ → Result (Unit {0}) Stop → List Deed
cell_deeds v f i new (Ok done) = Writes f i new ∷ []
cell_deeds v f i new (Err e) = missed v.post.machine e

pub record PutsUnder (v w : PortValue) (f owner i new : ℕ) (answer : Result (Unit {0}) Stop) : Type 0 where
  pub want : PageType
  pub came : Came v w
  pub serves : (word : ℕ) (by : Option Refusal) → Serves v w (of_cell owner f i word want by) (cell_deeds v f i new answer)
  pub stops : (word : ℕ) (by : Option Refusal) → IfErr answer (λ e. Stops v w (of_cell owner f i word want by) e)
  pub kinds : IfErr answer IsTakenStop
  pub hand : FlushedHolds v w (gave f v.holdings)
  pub course : StoredUnder v f owner i new want w answer
  pub short : IsShort v w 1050
