-- Why an operation or an element is refused: one equation for each refusal.
use Rattle.std.specs.Prelude.{◌≡◌, ◌≢◌, ◌⊎◌, ℕ, ◌+◌, ◌*◌, ◌/◌, ◌&&◌, ◌||◌, ◌<◌, ◌≤◌, not, nat_lt, if◌then◌else◌, Bool, true, false, length, slice_index, Option, Some, None, IsTrue}
use Rattle.xp_board.specs.declared.holdings.Lock.{Lock}
use Rattle.xp_board.specs.declared.holdings.Work.{Work}
use Rattle.step_maker.specs.Moves.{Moment}
use Rattle.xp_board.specs.FillSteps.{with_bit}
use Rattle.xp_words.specs.Machine.{Machine}
use Rattle.xp_words.specs.declared.place.Place.TheVariants.{Pages, Life, Vcpu, Refs, Kind, M2p, Cell, Map, Priv}
use Rattle.xp_words.specs.ContextWords.{ldt_read}
use Rattle.xp_words.specs.Entries.{fixed, demand_at, frame_of, is_bit, is_slot}
use Rattle.xp_words.specs.KindWords.{kind_fields}
use Rattle.xp_words.specs.RefWords.{ref_read}
use Rattle.xp_words.specs.declared.context.LdtBase.{LdtBase}
use Rattle.xp_words.specs.declared.entry.Demand.TheVariants as demands
use Rattle.xp_words.specs.declared.kind.PageType.{PageType}
use Rattle.xp_words.specs.declared.kind.PageType.TheVariants as kinds
use Rattle.xp_words.specs.declared.refs.RefWord.{RefWord}
use Rattle.xp_words.specs.declared.refs.RefWord.TheVariants.{Owned}
use Rattle.xp_words.specs.declared.reply.Refusal.{Refusal}
use Rattle.xp_words.specs.declared.reply.Refusal.TheVariants.{NoFrame, WrongOwner, OtherType, Reserved, CountFull, AlreadyPinned, NotPinned, Slot, NotMapped, ReadOnly, NonCanonical, NoPrivilege, NoDomain, Dying, DomainFull, NoFree, BadRange, BadDescriptor, BadCommand, Clock, BatchLong, InUse}
use Rattle.xp_words.specs.declared.place.Place.TheVariants as places
use Rattle.xp_board.specs.declared.holdings.Holdings.{Holdings}
use Rattle.xp_board.specs.Hands.{claim_of, work_on, lock_on}
use Rattle.xp_board.specs.Lists.{times}
use Rattle.xp_board.specs.Readings.{is_dead, is_frame_word, is_type, is_live_as, is_free, has_now, domain_of, last_clock}
use Rattle.step_maker.specs.Asked.{Request, Asked, IsAsked, HasNoMore, Passed, demand_held}
use Rattle.step_maker.specs.Finding.{Finding, FoundAt, FoundWith}
use Rattle.step_maker.specs.Reasons.{NeedsFlush}

-- ---- reference words
abbrev pub IsOwnedBy : ℕ → Option RefWord → Type 0
IsOwnedBy owner (Some (Owned o allocated count)) = o ≡ owner
IsOwnedBy owner _ = ⊥

abbrev pub is_allocated : Option RefWord → Bool
is_allocated (Some (Owned o allocated count)) = allocated
is_allocated _ = false

abbrev pub IsFull : ℕ → ℕ → Option RefWord → Type 0
IsFull owner limit (Some (Owned o allocated count)) = (o ≡ owner) × (limit ≤ count)
IsFull owner limit _ = ⊥

-- allocated, and beside that referred to
abbrev pub IsShared : Option RefWord → Type 0
IsShared (Some (Owned o allocated count)) = (allocated ≡ true) × (1 < count)
IsShared _ = ⊥

-- ---- kind words
abbrev pub is_other : PageType → ℕ → Bool
is_other want w = not (is_dead (kind_fields w)) && not (is_type (kind_fields w).kind want)

-- ---- entries
abbrev pub is_unmapped : Machine → ℕ → Bool
is_unmapped n w = not (is_bit 0 w) || not (nat_lt (frame_of w) n.frames)

-- the own LDT ends before that page
abbrev pub IsBeyond : ℕ → Option LdtBase → Type 0
IsBeyond page (Some b) = b.entries ≤ 512 * page
IsBeyond page None = ⊥

-- ---- frames that are free
-- a frame of that block was found not free, and is not one that was claimed
pub record HasTaken (size : ℕ) (F : Finding) (block : ℕ) : Type 0 where
  pub frame : ℕ
  pub inside : frame / size ≡ block
  pub word : ℕ
  pub hand : Holdings
  pub found : FoundWith F (Refs frame) word hand
  pub taken : is_free word ≡ false
  pub unclaimed : claim_of frame hand.claimed ≡ None

-- Every block of so many frames has one that was found taken, in one pass: the lower the block, the earlier.
pub record HasTakenAll (n : Machine) (size : ℕ) (F : Finding) : Type 0 where
  pub taken : (block : ℕ) → block * size + size ≤ n.frames → HasTaken size F block
  pub upwards : (low high : ℕ) (a : low * size + size ≤ n.frames) (b : high * size + size ≤ n.frames) → low < high → length (taken low a).hand.steps < length (taken high b).hand.steps

-- ---- walks
-- A walk from a top table of the own vCPU reached that table, at that level: a base names it, or an entry one level higher that is present and
-- names a frame of the machine.
pub data IsReached (n : Machine) (s : ℕ) (F : Finding) : ℕ → ℕ → Type 0 where
  top : (k w t : ℕ) → k < 2 → FoundAt F (Vcpu s k) w → IsTrue (is_frame_word t w) → IsReached n s F 4 t
  below : (level u i w : ℕ) → IsReached n s F (level + 1) u → FoundAt F (Cell u i) w → is_unmapped n w ≡ false → IsReached n s F level (frame_of w)

-- A read-only translation alone refuses a store of the guest's. A write that is to be done for the guest, as an update of an own table of level 1, is refused only
-- where the frame was found no such table.
abbrev pub IsNoTableUpdate : Request → Finding → Type 0
IsNoTableUpdate r F = (r.stores ≡ true) ⊎ ((f x : ℕ) × IsTrue (r.names f) × ((i : ℕ) × (r.index ≡ Some i)) × FoundAt F (Kind f) x × IsTrue (not (is_live_as kinds.L1 x)))

-- ---- privileges
-- Domain c lacks a privilege over d that the call needs. It was found without it: for tables or frames of d, or to change what a third domain may.
-- Or a domain is to destroy itself, for which there is no privilege.
pub data Lacks (n : Machine) (s : ℕ) (r : Request) (F : Finding) (c d : ℕ) : Type 0 where
  over_others : IsTrue (r.over d) → (c ≡ domain_of n s) ⊎ (c ≡ r.owner) → c ≢ d → (w : ℕ) → FoundAt F (Priv c) w → IsTrue (not (has_now d w)) → Lacks n s r F c d
  to_grant : (to : ℕ) → r.grants ≡ Some to → IsTrue (r.over d) → c ≡ domain_of n s → (w : ℕ) → FoundAt F (Priv c) w → IsTrue (not (has_now d w)) → Lacks n s r F c d
  over_itself : r.destroys ≡ Some d → c ≡ domain_of n s → c ≡ d → Lacks n s r F c d

-- the call writes slot i of a top table: by its numbers, or of one that was found live
abbrev pub WritesSlot : Machine → ℕ → Request → Finding → ℕ → Type 0
WritesSlot n s r F i =
    (r.by_numbers ≡ Some (Slot i)) ⊎ ((f w : ℕ) × IsAsked n s r F f × FoundAt F (Kind f) w × IsTrue (is_live_as kinds.L4 w) × (r.index ≡ Some i))

-- the table is under the own entry lock, and the entry asks what no entry may
abbrev pub IsBadUnder : ℕ → ℕ → Option Lock → Type 0
IsBadUnder i e (Some o) = demand_at o.kind i e ≡ demands.Bad
IsBadUnder i e None = ⊥

abbrev pub with_old_bit : ℕ → ℕ → ℕ → ℕ
with_old_bit i x w = if is_bit i x then with_bit i w else w

-- the new word, or it with bits 5 and 6 of the word that was found there
abbrev pub IsNewWord : Finding → ℕ → ℕ → ℕ → ℕ → Type 0
IsNewWord F f i w e = (e ≡ w) ⊎ ((x : ℕ) × FoundAt F (Cell f i) x × (e ≡ with_old_bit 6 x (with_old_bit 5 x w)))

abbrev pub is_desc_work : Option Work → Bool
is_desc_work (Some e) = is_type (kind_fields e.word).kind kinds.Desc && not (kind_fields e.word).unflushed
is_desc_work None = false

-- ---- by refusal
-- b is what the vCPU held as the piece began
abbrev pub Licensed : Machine → ℕ → Holdings → Request → Finding → Refusal → Type 0
Licensed n s b r F (NoFrame f) = IsAsked n s r F f × (n.frames ≤ f)
Licensed n s b r F (WrongOwner f w) =
    (owner : ℕ) × (want : Option PageType) × Asked n s r F f owner want × FoundAt F (Refs f) w
    × ((IsOwnedBy owner (ref_read w) → ⊥) ⊎ ((r.returns ≡ true) × (is_allocated (ref_read w) ≡ false)))
Licensed n s b r F (OtherType f want w) =
    ((owner : ℕ) × (h : Holdings) × Asked n s r F f owner (Some want) × FoundWith F (Kind f) w h × Passed n r F f owner h × IsTrue (is_other want w))
    ⊎ (IsTrue (r.names f) × ((i : ℕ) × (r.index ≡ Some i)) × FoundAt F (Kind f) w × (r.walks ≡ true) × (want ≡ kinds.L1) × IsTrue (not (is_live_as kinds.L1 w)))
Licensed n s b r F (Reserved f i e) =
    ((h : Holdings) × (r.entries ≡ true) × FoundWith F (Cell f i) e h × (demand_held f i e h ≡ Some demands.Bad))
    ⊎ ((w : ℕ) × (m : Moment) × IsTrue (r.names f) × (r.index ≡ Some i) × (r.new_word ≡ Some w) × F m × IsBadUnder i e (lock_on f m.hand.locks) × IsNewWord F f i w e)
Licensed n s b r F (CountFull f w) =
    (owner : ℕ) × (want : Option PageType) × (h : Holdings) × Asked n s r F f owner want × FoundWith F (Refs f) w h × IsFull owner n.limit (ref_read w) × HasNoMore r f h b
Licensed n s b r F (AlreadyPinned w) =
    (f owner : ℕ) × (want : PageType) × (h : Holdings) × Asked n s r F f owner (Some want) × FoundWith F (Kind f) w h × Passed n r F f owner h
    × (r.pins ≡ true) × IsTrue (r.names f) × ((kind_fields w).pinned ≡ true) × ((kind_fields w).kind ≡ want)
Licensed n s b r F (NotPinned w) =
    (f owner : ℕ) × (want : Option PageType) × (h : Holdings) × Asked n s r F f owner want × FoundWith F (Kind f) w h × Passed n r F f owner h × (r.pins ≡ true) × IsTrue (r.names f) × ((kind_fields w).pinned ≡ false)
Licensed n s b r F (Slot i) = IsTrue (is_slot kinds.L4 i) × WritesSlot n s r F i
Licensed n s b r F (NotMapped level e) =
    ((level ≡ 5) × (e ≡ 0) × (r.walks ≡ true) × ((k : ℕ) × (k < 2) × FoundAt F (Vcpu s k) 0))
    ⊎ ((0 < level) × (level < 5) × (r.walks ≡ true) × ((t i : ℕ) × IsReached n s F level t × FoundAt F (Cell t i) e × IsTrue (is_unmapped n e)))
Licensed n s b r F (ReadOnly e) =
    (r.walks ≡ true) × ((t i : ℕ) × FoundAt F (Cell t i) e × (is_bit 1 e ≡ false)) × IsNoTableUpdate r F
Licensed n s b r F NonCanonical = r.by_numbers ≡ Some NonCanonical
Licensed n s b r F (NoPrivilege c d) = Lacks n s r F c d
Licensed n s b r F NoDomain = r.by_numbers ≡ Some NoDomain
Licensed n s b r F (Dying d w) = IsTrue (r.over d) × FoundAt F (Life d) w × (w ≢ 0)
Licensed n s b r F (DomainFull w) =
    (h : Holdings) × FoundWith F (Pages (domain_of n s)) w h × (times (domain_of n s) h.credits ≡ 0) × ((k : ℕ) × (r.pages ≡ Some k) × (slice_index n.page_limit (domain_of n s) < w + k))
Licensed n s b r F NoFree = (size : ℕ) × (r.block ≡ Some size) × HasTakenAll n size F
Licensed n s b r F BadRange = (r.by_numbers ≡ Some BadRange) ⊎ ((page w : ℕ) × (r.ldt_page ≡ Some page) × FoundAt F (Vcpu s 7) w × IsBeyond page (ldt_read w))
Licensed n s b r F (BadDescriptor f i w) =
    (fixed w ≡ None) × (((h : Holdings) × IsAsked n s r F f × FoundWith F (Cell f i) w h × IsTrue (is_desc_work (work_on f h.works))) ⊎ (IsTrue (r.names f) × (r.index ≡ Some i) × (r.descriptor ≡ Some w)))
Licensed n s b r F BadCommand = r.by_numbers ≡ Some BadCommand
Licensed n s b r F (Clock w) = (w ≡ last_clock) × ((h : Holdings) × FoundWith F places.Clock w h × NeedsFlush n s r F h)
Licensed n s b r F BatchLong = r.by_numbers ≡ Some BatchLong
Licensed n s b r F (InUse f w) = (r.alone ≡ true) × IsTrue (r.names f) × IsOwnedBy r.owner (ref_read w) × ((h : Holdings) × FoundWith F (Refs f) w h × IsShared (ref_read w) × HasNoMore r f h b)
