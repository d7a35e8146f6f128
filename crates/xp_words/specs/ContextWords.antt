-- The words of a vCPU that name a frame, and the base of its LDT.
use Rattle.std.specs.Prelude.{ℕ, ◌+◌, ◌-◌, ◌*◌, ◌/◌, ◌%◌, ◌^◌, ◌<◌, ◌≤◌, ◌==◌, ◌&&◌, nat_lt, nat_le, if◌then◌else◌, Option, Some, None}
use Rattle.xp_words.specs.declared.context.ContextWord.{ContextWord}
use Rattle.xp_words.specs.declared.context.LdtBase.{LdtBase}

-- 0 for none, or one more than the frame's number
unfoldable pub context_read : ℕ → Option ContextWord
context_read w =
    if w == 0 then Some (record { frame = None })
    else if nat_le w (2 ^ 32) then Some (record { frame = Some (w - 1) })
    else None

abbrev pub frame_number : Option ℕ → ℕ
frame_number None = 0
frame_number (Some f) = f + 1

unfoldable pub context_write : ContextWord → ℕ
context_write c = frame_number c.frame

-- the values that have a word
abbrev pub IsFrame : Option ℕ → Type 0
IsFrame None = Unit {0}
IsFrame (Some f) = f < 2 ^ 32

unfoldable pub IsContext : ContextWord → Type 0
IsContext c = IsFrame c.frame

-- the number of entries in bits 0 to 13, the page in bits 14 to 49
unfoldable pub ldt_read : ℕ → Option LdtBase
ldt_read w =
    if nat_lt w (2 ^ 50) && nat_le (w % 2 ^ 14) 8192
    then Some (record { page = w / 2 ^ 14; entries = w % 2 ^ 14 })
    else None

unfoldable pub ldt_write : LdtBase → ℕ
ldt_write b = b.page * 2 ^ 14 + b.entries

pub record IsLdtBase (b : LdtBase) : Type 0 where
  pub page : b.page < 2 ^ 36
  pub entries : b.entries ≤ 8192
