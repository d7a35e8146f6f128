-- Guest-virtual addresses: which are canonical, which page and entries they choose, and which accesses the address alone refuses.
use Rattle.std.specs.Prelude.{ℕ, ◌+◌, ◌*◌, ◌/◌, ◌%◌, ◌^◌, ◌==◌, ◌||◌, if◌then◌else◌, Bool, Option, Some, None}
use Rattle.xp_words.specs.Entries.{is_slot}
use Rattle.xp_words.specs.declared.kind.PageType.TheVariants.{L4}
use Rattle.xp_words.specs.declared.reply.Refusal.{Refusal}
use Rattle.xp_words.specs.declared.reply.Refusal.TheVariants.{NonCanonical, Slot, BadRange}

-- bits 48 to 63 all equal bit 47
abbrev pub is_canonical : ℕ → Bool
is_canonical va = (va / 2 ^ 47 == 0) || (va / 2 ^ 47 == 131071)

-- bits 12 to 47: which page it is
abbrev pub page_of : ℕ → ℕ
page_of va = va / 2 ^ 12 % 2 ^ 36

-- which entry of a table of that level it leads through: bits 12 to 20 at level 1, and nine bits more at each level above
abbrev pub index_of : ℕ → ℕ → ℕ
index_of va level = va / 2 ^ (3 + 9 * level) % 512

-- which word of its page it is: bits 3 to 11
abbrev pub cell_index : ℕ → ℕ
cell_index va = va / 2 ^ 3 % 512

-- slots 256 to 271 of a top table are the hypervisor's, and no walk leads through them
abbrev pub slot_refusal : ℕ → Option Refusal
slot_refusal i = if is_slot L4 i then Some (Slot i) else None

-- why a walk is refused before its first step, by the address alone
abbrev pub walk_refusal : ℕ → Option Refusal
walk_refusal va = if is_canonical va then slot_refusal (index_of va 4) else Some NonCanonical

-- the same of an access of 8 bytes, which are to be one word
abbrev pub access_refusal : ℕ → Option Refusal
access_refusal va = if is_canonical va then (if va % 8 == 0 then slot_refusal (index_of va 4) else Some BadRange) else Some NonCanonical
