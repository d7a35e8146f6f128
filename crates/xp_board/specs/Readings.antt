-- What the words of a frame, a vCPU and a domain say.
use Rattle.std.specs.Prelude.{ℕ, ◌+◌, ◌==◌, ◌&&◌, ◌||◌, not, nat_lt, nat_le, if◌then◌else◌, Bool, true, false, slice_index, Option, Some, None}
use Rattle.xp_words.specs.declared.refs.RefWord.{RefWord}
use Rattle.xp_words.specs.declared.refs.RefWord.TheVariants.{Free, Owned, Dying}
use Rattle.xp_words.specs.declared.kind.KindWord.{KindWord}
use Rattle.xp_words.specs.declared.kind.PageType.{PageType}
use Rattle.xp_words.specs.RefWords.{ref_read, bit}
use Rattle.xp_words.specs.KindWords.{kind_fields}
use Rattle.xp_words.specs.PageTypes.{type_number}
use Rattle.xp_words.specs.Entries.{is_bit}
use Rattle.xp_words.specs.Machine.{Machine}
use Rattle.xp_words.specs.declared.place.Place.{Place}
use Rattle.xp_words.specs.declared.place.Place.TheVariants.{Clock, Vcpu, Refs, Kind}

-- ---- a frame's reference word
abbrev pub count_in : Option RefWord → ℕ
count_in (Some (Owned owner allocated count)) = count
count_in _ = 0

unfoldable pub ref_count : ℕ → ℕ
ref_count w = count_in (ref_read w)

abbrev pub allocated_in : Option RefWord → ℕ
allocated_in (Some (Owned owner allocated count)) = bit allocated
allocated_in _ = 0

-- 1 where the allocated mark is set
unfoldable pub allocated_mark : ℕ → ℕ
allocated_mark w = allocated_in (ref_read w)

abbrev pub owner_in : Option RefWord → Option ℕ
owner_in (Some (Owned owner allocated count)) = Some owner
owner_in (Some (Dying owner)) = Some owner
owner_in _ = None

-- the domain that owns the frame; None for a free one
unfoldable pub owner_of : ℕ → Option ℕ
owner_of w = owner_in (ref_read w)

abbrev pub is_number : Option ℕ → ℕ → Bool
is_number (Some n) g = n == g
is_number None g = false

abbrev pub is_owned_by : ℕ → ℕ → Bool
is_owned_by d w = is_number (owner_of w) d

abbrev pub stamp_in : Option RefWord → ℕ
stamp_in (Some (Free stamp)) = stamp
stamp_in _ = 0

-- the stamp of a free frame; 0 for any other
unfoldable pub free_stamp : ℕ → ℕ
free_stamp w = stamp_in (ref_read w)

abbrev pub is_free_in : Option RefWord → Bool
is_free_in (Some (Free stamp)) = true
is_free_in _ = false

unfoldable pub is_free : ℕ → Bool
is_free w = is_free_in (ref_read w)

abbrev pub is_dying_in : Option RefWord → Bool
is_dying_in (Some (Dying owner)) = true
is_dying_in _ = false

-- the count is 0, and the frame is in one vCPU's hand
unfoldable pub is_dying : ℕ → Bool
is_dying w = is_dying_in (ref_read w)

-- ---- a frame's kind word
abbrev pub kind_at : (Place → ℕ) → ℕ → KindWord
kind_at m f = kind_fields (m (Kind f))

-- a frame is live, partial, in work or dead
abbrev pub is_live : KindWord → Bool
is_live k = k.validated

abbrev pub is_partial : KindWord → Bool
is_partial k = not k.validated && k.partial

abbrev pub is_work : KindWord → Bool
is_work k = not k.validated && (not k.partial && k.locked)

abbrev pub is_dead : KindWord → Bool
is_dead k = not k.validated && (not k.partial && not k.locked)

-- live, and its last type count was given back
abbrev pub is_closing : KindWord → Bool
is_closing k = k.validated && (k.number == 0)

-- a live table under an entry lock
abbrev pub is_locked : KindWord → Bool
is_locked k = k.validated && k.locked

abbrev pub is_type : PageType → PageType → Bool
is_type t u = type_number t == type_number u

-- live with that type
abbrev pub is_live_as : PageType → ℕ → Bool
is_live_as t w = is_live (kind_fields w) && is_type (kind_fields w).kind t

abbrev pub is_live_word : ℕ → Bool
is_live_word w = is_live (kind_fields w)

abbrev pub is_partial_as : PageType → ℕ → Bool
is_partial_as t w = is_partial (kind_fields w) && is_type (kind_fields w).kind t

-- the number of typed references that the word counts
unfoldable pub type_count : KindWord → ℕ
type_count k = if k.validated then k.number else if k.partial || k.locked then 1 else 0

-- the stamp of a word that is not live; 0 for a live one
unfoldable pub kind_stamp : ℕ → ℕ
kind_stamp w = if (kind_fields w).validated then 0 else (kind_fields w).number

-- ---- words of a vCPU
-- word k may hold a typed reference: base, user, the two old words, GDT and LDT
abbrev pub is_context : ℕ → Bool
is_context k = nat_lt k 4 || nat_le 8 k

-- whether the word holds one to that frame
abbrev pub is_frame_word : ℕ → ℕ → Bool
is_frame_word g w = w == g + 1

abbrev pub domain_of : Machine → ℕ → ℕ
domain_of m v = slice_index m.vcpu_domain v

-- ---- words of a domain
abbrev pub has_now : ℕ → ℕ → Bool
has_now o w = is_bit o w

abbrev pub has_ever : ℕ → ℕ → Bool
has_ever o w = is_bit (16 + o) w

-- ---- the clock
abbrev pub last_clock : ℕ
last_clock = 68719476734

-- the clock value or stamp that a word at that place tells; 0 where it tells none
unfoldable pub clock_value : Place → ℕ → ℕ
clock_value Clock w = w
clock_value (Vcpu v k) w = if k == 5 then w else 0
clock_value (Refs f) w = free_stamp w
clock_value (Kind f) w = kind_stamp w
clock_value _ w = 0
