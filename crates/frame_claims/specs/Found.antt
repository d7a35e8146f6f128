-- The steps of a claim as a list, the newest in front: the pages are counted, a block chosen, its flush awaited, its frames taken, and given.
use Rattle.std.specs.Prelude.{◌≡◌, ◌≢◌, ◌⊎◌, ℕ, ◌+◌, ◌-◌, ◌*◌, ◌/◌, ◌%◌, ◌^◌, ◌<◌, ◌≤◌, ◌==◌, ◌&&◌, nat_le, Bool, true, false, List, ◌++◌, length, slice_index, Option, Some, None, Result, Ok, Err}
use Rattle.xp_words.specs.Machine.{Machine}
use Rattle.xp_words.specs.Places.{map_words, number, sizes_of}
use Rattle.xp_words.specs.RefWords.{ref_write}
use Rattle.xp_words.specs.declared.place.Place.TheVariants.{Cell, M2p, Map, Pages, Refs}
use Rattle.xp_words.specs.declared.refs.RefWord.TheVariants.{Dying, Owned}
use Rattle.xp_words.specs.declared.reply.Pause.TheVariants.{Lost}
use Rattle.xp_words.specs.declared.reply.Refusal.TheVariants.{DomainFull, NoFree}
use Rattle.xp_words.specs.declared.reply.Stop.{Stop}
use Rattle.xp_words.specs.declared.reply.Stop.TheVariants.{Refused, Paused}
use Rattle.xp_board.specs.HintSteps.{map_bit}
use Rattle.xp_board.specs.Readings.{is_free}
use Rattle.xp_board.specs.Told.{Post}
use Rattle.xp_board.specs.declared.step.Act.TheVariants.{Load, Cas, Store, Add}
use Rattle.step_maker.specs.Reasons.{Those}
use Rattle.step_maker.specs.Visits.{Visit, visit, Nothing, Only, Then}
use Rattle.flush_waits.specs.Listing.{WaitedFor}
use Rattle.flush_waits.specs.Waiting.{everyone}
use Rattle.frame_claims.specs.Blocks.{numbered}
use Rattle.frame_claims.specs.Choosing.{greatest}
use Rattle.frame_claims.specs.declared.choosing.Chosen.{Chosen}

-- ---- lists in order
-- one such list for each number from that one on, upwards, below the other
pub data Upwards (P : ℕ → List Visit → Type 0) (from : ℕ) : ℕ → List Visit → Type 0 where
  starts : (vs : List Visit) → Nothing vs → Upwards P from from vs
  goes_up : (n : ℕ) (before now vs : List Visit) → Upwards P from n before → P n now → vs ≡ now ++ before → Upwards P from (n + 1) vs

-- one for each number below that one, downwards, to the other
pub data Downwards (P : ℕ → List Visit → Type 0) (below : ℕ) : ℕ → List Visit → Type 0 where
  begins : (vs : List Visit) → Nothing vs → Downwards P below below vs
  goes_down : (n : ℕ) (before now vs : List Visit) → Downwards P below (n + 1) before → P n now → vs ≡ now ++ before → Downwards P below n vs

-- one for each number below n, upwards, up to the first that answers something
abbrev pub FirstOf : {A : Type 0} → (ℕ → Option A → List Visit → Type 0) → ℕ → Option A → List Visit → Type 0
FirstOf P n None vs = Upwards (λ i us. P i None us) 0 n vs
FirstOf P n (Some a) vs = (i : ℕ) × (i < n) × Then (Upwards (λ j us. P j None us) 0 i) (P i (Some a)) vs

-- ---- pages
abbrev pub saw_pages : ℕ → ℕ → Visit
saw_pages d x = visit (Pages d) Load x

abbrev pub counts_pages : ℕ → ℕ → ℕ → ℕ → Visit
counts_pages d k found x = visit (Pages d) (Cas found (found + k)) x

abbrev pub refunds_pages : ℕ → ℕ → ℕ → Visit
refunds_pages d k x = visit (Pages d) (Add (2 ^ 64 - k)) x

abbrev pub RefundedBy : ℕ → ℕ → List Visit → Type 0
RefundedBy d k vs = (x : ℕ) × Only (refunds_pages d k x) vs

-- k pages of d are counted, where they are within its limit
abbrev pub ChargedBy : Machine → ℕ → ℕ → Result (Unit {0}) Stop → List Visit → Type 0
ChargedBy n d k (Ok done) vs = (p : ℕ) × (p + k ≤ slice_index n.page_limit d) × Then (Only (saw_pages d p)) (Only (counts_pages d k p p)) vs
ChargedBy n d k (Err (Refused (DomainFull p))) vs = (slice_index n.page_limit d < p + k) × Only (saw_pages d p) vs
ChargedBy n d k (Err (Paused (Lost place p x))) vs =
    (place ≡ number (sizes_of n) (Pages d)) × (x ≢ p) × (p + k ≤ slice_index n.page_limit d) × Then (Only (saw_pages d p)) (Only (counts_pages d k p x)) vs
ChargedBy n d k (Err e) vs = ⊥

-- ---- the choice of a block
-- its first frame, and the stamps of its frames
pub record FreeBlock : Type 0 where
  pub first : ℕ
  pub stamps : List ℕ

abbrev pub block_of : Option Chosen → List ℕ → Option FreeBlock
block_of None stamps = None
block_of (Some c) stamps = Some (record { first = c.first; stamps = stamps })

abbrev pub saw_refs : ℕ → ℕ → Visit
saw_refs f x = visit (Refs f) Load x

abbrev pub SawFree : ℕ → List Visit → Type 0
SawFree f vs = (x : ℕ) × (is_free x ≡ true) × Only (saw_refs f x) vs

abbrev pub SawTaken : ℕ → List Visit → Type 0
SawTaken f vs = (x : ℕ) × (is_free x ≡ false) × Only (saw_refs f x) vs

-- each with its stamp
abbrev pub FreeAt : ℕ → List ℕ → ℕ → List Visit → Type 0
FreeAt f stamps j vs = (is_free (slice_index stamps j) ≡ true) × Only (saw_refs (f + j) (slice_index stamps j)) vs

abbrev pub AllFree : ℕ → List ℕ → List Visit → Type 0
AllFree f stamps vs = Upwards (FreeAt f stamps) 0 (length stamps) vs

-- The frames from f on are looked at, upwards: all k of them are free, or all but the last that is looked at.
abbrev pub TriedBy : ℕ → ℕ → Option FreeBlock → List Visit → Type 0
TriedBy k f (Some b) vs = (b.first ≡ f) × (length b.stamps ≡ k) × AllFree f b.stamps vs
TriedBy k f None vs = (m : ℕ) × (m < k) × Then (Upwards (λ j us. SawFree (f + j) us) 0 m) (λ us. SawTaken (f + m) us) vs

-- that, or no look at it
abbrev pub TriedWhere : Bool → ℕ → ℕ → Option FreeBlock → List Visit → Type 0
TriedWhere true k f o vs = TriedBy k f o vs
TriedWhere false k f o vs = (o ≡ None) × Nothing vs

-- bits at .. at + k of a word of the map are all set
abbrev pub are_set : ℕ → ℕ → ℕ → Bool
are_set k at x = x / 2 ^ at % 2 ^ k == 2 ^ k - 1

-- a word of the map: each of its blocks of k frames is tried whose bits are all set in it
abbrev pub BlockBy : Machine → ℕ → ℕ → ℕ → ℕ → Option FreeBlock → List Visit → Type 0
BlockBy n k word x at o vs = TriedWhere (are_set k (k * at) x && nat_le (64 * word + k * at + k) n.frames) k (64 * word + k * at) o vs

abbrev pub InWordBy : Machine → ℕ → ℕ → ℕ → Option FreeBlock → List Visit → Type 0
InWordBy n k word x o vs = FirstOf (BlockBy n k word x) (64 / k) o vs

abbrev pub saw_map : ℕ → ℕ → Visit
saw_map word x = visit (Map word) Load x

abbrev pub WordBy : Machine → ℕ → ℕ → Option FreeBlock → List Visit → Type 0
WordBy n k word o vs = (x : ℕ) × Then (Only (saw_map word x)) (InWordBy n k word x o) vs

-- words of the map, from that one on, have all bits set; or all but the last that is looked at
abbrev pub SawFull : ℕ → List Visit → Type 0
SawFull word vs = Only (saw_map word (2 ^ 64 - 1)) vs

abbrev pub FullBy : ℕ → ℕ → Bool → List Visit → Type 0
FullBy first count true vs = Upwards SawFull first (first + count) vs
FullBy first count false vs = (w : ℕ) × (first ≤ w) × (w < first + count) × Then (Upwards SawFull first w) (λ us. (x : ℕ) × (x ≢ 2 ^ 64 - 1) × Only (saw_map w x) us) vs

-- a block of several words: tried where all their bits are set
abbrev pub RunBy : ℕ → ℕ → Option FreeBlock → List Visit → Type 0
RunBy words block o vs = (full : Bool) × Then (FullBy (block * words) words full) (TriedWhere full (64 * words) (block * (64 * words)) o) vs

-- by the map of free frames; where that has none, by the reference words alone, in one pass
abbrev pub HintedBy : Machine → ℕ → Option FreeBlock → List Visit → Type 0
HintedBy n k o vs = ((k ≤ 64) × FirstOf (WordBy n k) (map_words (sizes_of n)) o vs) ⊎ ((64 < k) × FirstOf (RunBy (k / 64)) (n.frames / k) o vs)

abbrev pub PassBy : ℕ → ℕ → Option FreeBlock → List Visit → Type 0
PassBy k block o vs = TriedBy k (block * k) o vs

abbrev pub ScannedBy : Machine → ℕ → Option FreeBlock → List Visit → Type 0
ScannedBy n k o vs = FirstOf (PassBy k) (n.frames / k) o vs

abbrev pub ChosenBy : Machine → ℕ → Option FreeBlock → List Visit → Type 0
ChosenBy n k (Some b) vs = HintedBy n k (Some b) vs ⊎ Then (HintedBy n k None) (ScannedBy n k (Some b)) vs
ChosenBy n k None vs = Then (HintedBy n k None) (ScannedBy n k None) vs

-- ---- the block is taken: from the last frame to the first
abbrev pub TakesOne : ℕ → ℕ → List ℕ → ℕ → List Visit → Type 0
TakesOne d f stamps i vs = Only (visit (Refs (f + i)) (Cas (slice_index stamps i) (ref_write (Dying d))) (slice_index stamps i)) vs

-- a frame is free again, with its old word
abbrev pub FreesOne : ℕ → List ℕ → ℕ → List Visit → Type 0
FreesOne f stamps i vs = (x : ℕ) × Only (visit (Refs (f + i)) (Store (slice_index stamps i)) x) vs

-- All; or another vCPU was there first, and those that were taken before are free again, upwards.
abbrev pub TakenBy : Machine → ℕ → ℕ → List ℕ → Result (Unit {0}) Stop → List Visit → Type 0
TakenBy n d f stamps (Ok done) vs = Downwards (TakesOne d f stamps) (length stamps) 0 vs
TakenBy n d f stamps (Err (Paused (Lost place s x))) vs =
    (j : ℕ) × (j < length stamps) × (place ≡ number (sizes_of n) (Refs (f + j))) × (s ≡ slice_index stamps j) × (x ≢ s)
    × Then (Downwards (TakesOne d f stamps) (length stamps) (j + 1)) (Then (Only (visit (Refs (f + j)) (Cas s (ref_write (Dying d))) x)) (Upwards (FreesOne f stamps) (j + 1) (length stamps))) vs
TakenBy n d f stamps (Err e) vs = ⊥

-- ---- a frame is given: all cells 0, its machine-to-physical word, its bit in the map, its owner
abbrev pub ScrubsOne : ℕ → ℕ → List Visit → Type 0
ScrubsOne f i vs = (x : ℕ) × Only (visit (Cell f i) (Store 0) x) vs

abbrev pub ScrubbedBy : ℕ → List Visit → Type 0
ScrubbedBy f vs = Upwards (ScrubsOne f) 0 512 vs

abbrev pub NamedBy : ℕ → ℕ → List Visit → Type 0
NamedBy f g vs = (x : ℕ) × Only (visit (M2p f) (Store g) x) vs

abbrev pub LoweredBy : ℕ → List Visit → Type 0
LoweredBy f vs = (x : ℕ) × Only (visit (Map (f / 64)) (Add (2 ^ 64 - map_bit f)) x) vs

abbrev pub OwnedBy : ℕ → ℕ → List Visit → Type 0
OwnedBy d f vs = (x : ℕ) × Only (visit (Refs f) (Store (ref_write (Owned d true 1))) x) vs

abbrev pub GivenBy : ℕ → ℕ → ℕ → List Visit → Type 0
GivenBy d f g vs = Then (ScrubbedBy f) (Then (NamedBy f g) (Then (LoweredBy f) (OwnedBy d f))) vs

abbrev pub AllGivenBy : ℕ → ℕ → Option ℕ → ℕ → List Visit → Type 0
AllGivenBy d f g k vs = Upwards (λ i us. GivenBy d (f + i) (numbered g i) us) 0 k vs

-- ---- as a whole
-- a block is chosen, and all vCPUs are waited for
abbrev pub FlushedFor : Post → ℕ → FreeBlock → Result (Unit {0}) Stop → List Visit → Type 0
FlushedFor q k b answer vs = Then (ChosenBy q.machine k (Some b)) (WaitedFor q (Those everyone) (greatest b.stamps) answer) vs

-- And it is taken. Or none is free; or the wait or the taking stops.
abbrev pub TookBy : Post → ℕ → ℕ → Result ℕ Stop → List Visit → Type 0
TookBy q d k (Ok f) vs = (stamps : List ℕ) × Then (FlushedFor q k (record { first = f; stamps = stamps }) (Ok tt)) (TakenBy q.machine d f stamps (Ok tt)) vs
TookBy q d k (Err e) vs =
    ((e ≡ Refused NoFree) × ChosenBy q.machine k None vs)
    ⊎ (((b : FreeBlock) × FlushedFor q k b (Err e) vs) ⊎ ((b : FreeBlock) × Then (FlushedFor q k b (Ok tt)) (TakenBy q.machine d b.first b.stamps (Err e)) vs))

-- A claim of k frames for domain d, whose machine-to-physical words are numbered from g on: where it stops behind the count of the pages, that is taken back.
abbrev pub ClaimsBy : Post → ℕ → ℕ → Option ℕ → Result ℕ Stop → List Visit → Type 0
ClaimsBy q d k g (Ok f) vs = Then (ChargedBy q.machine d k (Ok tt)) (Then (TookBy q d k (Ok f)) (AllGivenBy d f g k)) vs
ClaimsBy q d k g (Err e) vs = ChargedBy q.machine d k (Err e) vs ⊎ Then (ChargedBy q.machine d k (Ok tt)) (Then (TookBy q d k (Err e)) (RefundedBy d k)) vs
