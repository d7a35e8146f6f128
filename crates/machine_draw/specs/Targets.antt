-- The frame that an entry of a page table or a word of a vCPU names.
use Rattle.std.specs.Prelude.{ℕ, ◌==◌, ◌||◌, nat_lt, nat_le, if◌then◌else◌, Bool, false, Option, Some, None}
use Rattle.xp_words.specs.declared.context.ContextWord.{ContextWord}
use Rattle.xp_words.specs.declared.entry.Demand.{Demand}
use Rattle.xp_words.specs.declared.entry.Demand.TheVariants.{Nothing, Bad, Read, Typed}
use Rattle.xp_words.specs.declared.kind.PageType.{PageType}
use Rattle.xp_words.specs.ContextWords.{context_read}
use Rattle.xp_words.specs.Entries.{demand_at}

abbrev pub asked_frame : Demand → Option ℕ
asked_frame Nothing = None
asked_frame Bad = None
asked_frame (Read f) = Some f
asked_frame (Typed f kind) = Some f

-- the frame that entry i of a table of that type names
unfoldable pub entry_target : PageType → ℕ → ℕ → Option ℕ
entry_target kind i w = asked_frame (demand_at kind i w)

abbrev pub frame_in : Option ContextWord → Option ℕ
frame_in None = None
frame_in (Some c) = c.frame

-- the frame that word k of a vCPU names: words 4 to 7 name none
unfoldable pub context_target : ℕ → ℕ → Option ℕ
context_target k w = if nat_lt k 4 || nat_le 8 k then frame_in (context_read w) else None

abbrev pub is_frame : ℕ → Option ℕ → Bool
is_frame f None = false
is_frame f (Some g) = g == f
