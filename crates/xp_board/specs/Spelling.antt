-- Which words may stand at a place of a machine.
use Rattle.std.specs.Prelude.{ℕ, ◌+◌, ◌*◌, ◌^◌, ◌<◌, ◌≤◌, ◌==◌, ◌&&◌, ◌||◌, not, nat_lt, nat_le, if◌then◌else◌, is_some, ◌-◌, Bool, true, false, length, slice_index, Option, Some, None, IsTrue}
use Rattle.xp_words.specs.declared.refs.RefWord.{RefWord}
use Rattle.xp_words.specs.declared.refs.RefWord.TheVariants.{Free, Owned, Dying}
use Rattle.xp_words.specs.declared.kind.KindWord.{KindWord}
use Rattle.xp_words.specs.RefWords.{ref_read}
use Rattle.xp_words.specs.KindWords.{kind_read}
use Rattle.xp_words.specs.ContextWords.{ldt_read}
use Rattle.xp_words.specs.Entries.{is_bit}
use Rattle.xp_words.specs.Machine.{Machine}
use Rattle.xp_words.specs.declared.place.Place.{Place}
use Rattle.xp_words.specs.declared.place.Place.TheVariants.{Clock, Pages, Life, Vcpu, Refs, Kind, M2p, Cell, Map, Priv}
use Rattle.xp_board.specs.Readings.{is_context, last_clock}

-- an owner that the machine has, and a count within its limit
abbrev pub is_ref_in : Machine → Option RefWord → Bool
is_ref_in m (Some (Free stamp)) = true
is_ref_in m (Some (Owned owner allocated count)) = nat_lt owner (length m.page_limit) && nat_le count m.limit
is_ref_in m (Some (Dying owner)) = nat_lt owner (length m.page_limit)
is_ref_in m None = false

-- a type count within the limit
abbrev pub is_kind_in : Machine → Option KindWord → Bool
is_kind_in m (Some k) = not k.validated || nat_le k.number m.limit
is_kind_in m None = false

abbrev pub is_life : ℕ → Bool
is_life w = nat_le w 16 || (w == 255)

-- a word of a vCPU: a frame of the machine or none; running, stopped or off; the base of an LDT
abbrev pub is_vcpu_word : Machine → ℕ → ℕ → Bool
is_vcpu_word m k w =
    if is_context k then nat_le w m.frames
    else if k == 6 then nat_lt w 3
    else if k == 7 then is_some (ldt_read w)
    else true

-- the bits of frames that the machine has, in word k of the free map
abbrev pub map_bits : ℕ → ℕ → ℕ
map_bits frames k = if nat_le (64 * k + 64) frames then 64 else frames - 64 * k

-- what is had now was given once; no bits from 32 on
abbrev pub IsPriv : ℕ → Type 0
IsPriv w = (w < 2 ^ 32) × ((o : ℕ) → o < 16 → IsTrue (is_bit o w) → IsTrue (is_bit (16 + o) w))

unfoldable pub IsSpelling : Machine → Place → ℕ → Type 0
IsSpelling m Clock w = (0 < w) × (w ≤ last_clock)
IsSpelling m (Pages d) w = w ≤ slice_index m.page_limit d
IsSpelling m (Life d) w = IsTrue (is_life w)
IsSpelling m (Vcpu v k) w = (w < 2 ^ 64) × IsTrue (is_vcpu_word m k w)
IsSpelling m (Refs f) w = IsTrue (is_ref_in m (ref_read w))
IsSpelling m (Kind f) w = IsTrue (is_kind_in m (kind_read w))
IsSpelling m (M2p f) w = w < 2 ^ 64
IsSpelling m (Cell f i) w = w < 2 ^ 64
IsSpelling m (Map k) w = w < 2 ^ map_bits m.frames k
IsSpelling m (Priv d) w = IsPriv w
