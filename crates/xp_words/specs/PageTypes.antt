-- The types of frames and their numbers.
use Rattle.std.specs.Prelude.{ℕ, ◌==◌, ◌&&◌, nat_lt, if◌then◌else◌, Bool}
use Rattle.xp_words.specs.declared.kind.PageType.{PageType}
use Rattle.xp_words.specs.declared.kind.PageType.TheVariants as kinds

abbrev pub type_number : PageType → ℕ
type_number kinds.None = 0
type_number kinds.L1 = 1
type_number kinds.L2 = 2
type_number kinds.L3 = 3
type_number kinds.L4 = 4
type_number kinds.Desc = 5
type_number kinds.Writable = 7

abbrev pub type_of : ℕ → PageType
type_of n =
    if n == 0 then kinds.None
    else if n == 1 then kinds.L1
    else if n == 2 then kinds.L2
    else if n == 3 then kinds.L3
    else if n == 4 then kinds.L4
    else if n == 5 then kinds.Desc
    else kinds.Writable

abbrev pub is_none : PageType → Bool
is_none k = type_number k == 0

-- L1 to L4
abbrev pub is_table : PageType → Bool
is_table k = nat_lt 0 (type_number k) && nat_lt (type_number k) 5
