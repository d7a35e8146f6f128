-- Numbers in decimal and hexadecimal.
use Rattle.std.specs.Prelude.{ℕ, ◌^◌, List, [], ◌∷◌, drop, take, slice_index, Option, Some, None, Bool, true, false, ◌==◌, nat_lt, nat_le, ◌&&◌, not, if◌then◌else◌}
use Rattle.std.specs.List.{list_all, position_or_len}
use Rattle.std.specs.Char.{digit_value}
use Rattle.std.specs.Str.Parse.{digits_value_after}

-- a digit of the base, and no capital
abbrev pub is_digit : ℕ → ℕ → Bool
is_digit base c = nat_lt (digit_value c) base && not (nat_le 65 c && nat_le c 90)

-- the number that digits write behind those of n, where they are digits and it is below 2^64
abbrev pub numeral_after : ℕ → ℕ → List ℕ → Option ℕ
numeral_after base n ds = if list_all (is_digit base) ds && nat_lt (digits_value_after base n ds) (2 ^ 64) then Some (digits_value_after base n ds) else None

-- one digit, or more without a leading zero
abbrev pub is_proper : List ℕ → Bool
is_proper [] = false
is_proper (c ∷ []) = true
is_proper (c ∷ d ∷ cs) = not (c == 48)

-- the number that a word of digits spells in a base
unfoldable pub numeral : ℕ → List ℕ → Option ℕ
numeral base ds = if is_proper ds then numeral_after base 0 ds else None

-- decimal, or hexadecimal behind 0x
unfoldable pub number_of : List ℕ → Option ℕ
number_of w = if (slice_index w 0 == 48) && (slice_index w 1 == 120) then numeral 16 (drop 2 w) else numeral 10 w

-- how many bytes stand before the first space of a text
abbrev pub word_len : List ℕ → ℕ
word_len text = position_or_len (λ b. b == 32) text

-- the first word of a text
abbrev pub word_of : List ℕ → List ℕ
word_of text = take (word_len text) text
