-- The trace that is made by rule: what each operation is, by its number.
use Rattle.std.specs.Prelude.{ℕ, ◌+◌, ◌*◌, ◌/◌, ◌%◌, ◌==◌, if◌then◌else◌, List, [], ◌∷◌, map}
use Rattle.std.specs.List.{range_with_len}
use Rattle.xp_words.specs.Machine.{Machine}
use Rattle.xp_words.specs.declared.ops.Call.TheVariants.{Mmu, Ext, Mem}
use Rattle.xp_words.specs.declared.ops.Op.{Op}
use Rattle.xp_words.specs.declared.ops.Op.TheVariants.{One}
use Rattle.trace_text.specs.declared.trace.Trace.{Trace}

-- 256 frames, and one vCPU of one domain, which may have them all
abbrev pub generated_machine : Machine
generated_machine = record { frames = 256; limit = 67108863; page_limit = 256 ∷ []; privilege = 0 ∷ []; vcpu_domain = 0 ∷ [] }

-- one element of mmu_update, in which the caller names no other domain
abbrev pub update_with : ℕ → ℕ → Op
update_with ptr val = One (Mmu 0x7ff0 (record { ptr = ptr; val = val } ∷ []))

-- the machine-to-physical word of one of frames 0 to 31 is set
abbrev pub renumbering : ℕ → Op
renumbering round = update_with (round % 32 * 4096 + 1) round

-- one of frames 32 to 63
abbrev pub table_of : ℕ → ℕ
table_of round = 32 + round % 32

-- it is pinned as an L1 table
abbrev pub pinning : ℕ → Op
pinning round = One (Ext (record { command = 0; first = table_of round; second = 0 } ∷ []))

-- the address of one of its 512 entries
abbrev pub entry_address : ℕ → ℕ
entry_address round = table_of round * 4096 + 8 * (round % 512)

-- the entry is set, to map one of frames 64 to 127 for writing
abbrev pub mapping : ℕ → Op
mapping round = update_with (entry_address round) ((64 + round % 64) * 4096 + 3)

-- the entry is emptied
abbrev pub unmapping : ℕ → Op
unmapping round = update_with (entry_address round) 0

-- a memory_op of one extent of one frame
abbrev pub memory_with : ℕ → ℕ → Op
memory_with command item = One (Mem command 0 (item ∷ []))

-- one of frames 128 to 191 is given back
abbrev pub giving_back : ℕ → Op
giving_back round = memory_with 1 (128 + round % 64)

-- a frame is asked for, to stand under that number
abbrev pub asking : ℕ → Op
asking round = memory_with 6 round

-- the six operations of a round, by their place in it
abbrev pub op_at : ℕ → ℕ → Op
op_at place round =
    if place == 0 then renumbering round
    else if place == 1 then pinning round
    else if place == 2 then mapping round
    else if place == 3 then unmapping round
    else if place == 4 then giving_back round
    else asking round

-- the operation of that number, from 0 on
unfoldable pub generated_op : ℕ → Op
generated_op number = op_at (number % 6) (number / 6)

abbrev pub generated_script : ℕ → List Op
generated_script n = map generated_op (range_with_len 0 n)

-- n operations of one vCPU, whose domain owns frames 0 to 191, and a turn more than there are operations
abbrev pub generated : ℕ → Trace
generated n = record {
  version = 1;
  layout = generated_machine;
  clock = 1;
  owned = record { domain = 0; first = 0; count = 192 } ∷ [];
  cells = [];
  scripts = generated_script n ∷ [];
  turns = record { vcpu = 0; count = n + 1 } ∷ [];
}
