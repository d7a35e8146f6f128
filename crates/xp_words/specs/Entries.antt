-- Entries of page tables, and the fixed forms of descriptors.
use Rattle.std.specs.Prelude.{ℕ, ◌+◌, ◌-◌, ◌*◌, ◌/◌, ◌%◌, ◌^◌, ◌==◌, ◌&&◌, ◌||◌, not, nat_lt, nat_le, if◌then◌else◌, Bool, true, false, Option, Some, None}
use Rattle.xp_words.specs.declared.kind.PageType.{PageType}
use Rattle.xp_words.specs.declared.kind.PageType.TheVariants as kinds
use Rattle.xp_words.specs.declared.entry.Demand.{Demand}
use Rattle.xp_words.specs.declared.entry.Demand.TheVariants.{Nothing, Bad, Read, Typed}
use Rattle.xp_words.specs.PageTypes.{type_number}

-- whether bit i of the word is set
abbrev pub is_bit : ℕ → ℕ → Bool
is_bit i w = w / 2 ^ i % 2 == 1

-- the frame that an entry names, whether the machine has it or not
abbrev pub frame_of : ℕ → ℕ
frame_of w = w / 2 ^ 12 % 2 ^ 40

-- a bit that no present entry of that kind may have set
abbrev pub is_reserved : Bool → ℕ → Bool
is_reserved lowest w =
    not (w / 2 ^ 3 % 4 == 0) || is_bit 7 w || (not lowest && is_bit 8 w) || not (w / 2 ^ 52 % 2 ^ 11 == 0)

-- the type of the level below
abbrev pub below : PageType → PageType
below kinds.L4 = kinds.L3
below kinds.L3 = kinds.L2
below kinds.L2 = kinds.L1
below _ = kinds.Writable

abbrev pub is_lowest : PageType → Bool
is_lowest kinds.L1 = true
is_lowest _ = false

-- what an entry of a table of that type asks of the frame that it names
unfoldable pub demand_of : PageType → ℕ → Demand
demand_of kind w =
    if not (is_bit 0 w) then Nothing
    else if is_reserved (is_lowest kind) w then Bad
    else if is_lowest kind && not (is_bit 1 w) then Read (frame_of w)
    else Typed (frame_of w) (below kind)

-- slots 256 to 271 of a top table are the hypervisor's
abbrev pub is_slot : PageType → ℕ → Bool
is_slot kind i = (type_number kind == 4) && (nat_le 256 i && nat_lt i 272)

-- what entry i of a table of that type asks
unfoldable pub demand_at : PageType → ℕ → ℕ → Demand
demand_at kind i w = if is_slot kind i then Nothing else demand_of kind w

-- the descriptor with bits 45 and 46 set, which are its privilege level
abbrev pub with_level_3 : ℕ → ℕ
with_level_3 w = w + (3 - w / 2 ^ 45 % 4) * 2 ^ 45

-- The descriptor that takes the place of a word: one that is not present stands as it is, a segment of code or
-- data gets privilege level 3, a null type stands, and all others are refused.
unfoldable pub fixed : ℕ → Option ℕ
fixed w =
    if not (is_bit 47 w) then Some w
    else if is_bit 44 w then Some (with_level_3 w)
    else if w / 2 ^ 40 % 2 ^ 5 == 0 then Some w
    else None
