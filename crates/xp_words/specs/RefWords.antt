-- The first word of a frame: which values have a word, and how it is spelled and read.
use Rattle.std.specs.Prelude.{ℕ, ◌+◌, ◌*◌, ◌/◌, ◌%◌, ◌^◌, ◌<◌, ◌==◌, ◌&&◌, nat_lt, if◌then◌else◌, Bool, true, false, Option, Some, None}
use Rattle.xp_words.specs.declared.refs.RefWord.{RefWord}
use Rattle.xp_words.specs.declared.refs.RefWord.TheVariants.{Free, Owned, Dying}

-- 1 where the bit is set
abbrev pub bit : Bool → ℕ
bit true = 1
bit false = 0

-- the values that have a word
unfoldable pub IsRef : RefWord → Type 0
IsRef (Free stamp) = stamp < 2 ^ 36
IsRef (Owned owner allocated count) = (owner < 2 ^ 16) × (0 < count) × (count < 2 ^ 26)
IsRef (Dying owner) = owner < 2 ^ 16

-- the word of a value
unfoldable pub ref_write : RefWord → ℕ
ref_write (Free stamp) = stamp
ref_write (Owned owner allocated count) = 2 ^ 63 + owner * 2 ^ 32 + bit allocated * 2 ^ 31 + count
ref_write (Dying owner) = 2 ^ 63 + owner * 2 ^ 32

-- the owned frame with these fields; without a reference it is dying, and has no allocated mark
abbrev pub ref_of_fields : ℕ → ℕ → ℕ → Option RefWord
ref_of_fields owner allocated count =
    if count == 0
    then (if allocated == 0 then Some (Dying owner) else None)
    else Some (Owned owner (allocated == 1) count)

-- the value that a word is read as
unfoldable pub ref_read : ℕ → Option RefWord
ref_read w =
    if nat_lt w (2 ^ 36)
    then Some (Free w)
    else if (w / 2 ^ 48 == 2 ^ 15) && (w / 2 ^ 26 % 2 ^ 5 == 0)
    then ref_of_fields (w / 2 ^ 32 % 2 ^ 16) (w / 2 ^ 31 % 2) (w % 2 ^ 26)
    else None
