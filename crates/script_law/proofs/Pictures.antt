-- A small machine of one domain and one vCPU, its operations by short names, and what a script on it answers and leaves.
use Rattle.std.proofs.Common.{ℕ, ◌-◌, ◌^◌, ◌==◌, ◌&&◌, if◌then◌else◌, true, false, List, [], ◌∷◌, Option, None, Some}
use Rattle.std.specs.Prelude.{map, nat_lt}
use Rattle.xp_words.specs.declared.kind.KindWord.{KindWord}
use Rattle.xp_words.specs.declared.kind.PageType.{PageType}
use Rattle.xp_words.specs.declared.kind.PageType.TheVariants as kinds
use Rattle.xp_words.specs.declared.ops.Call.{Call}
use Rattle.xp_words.specs.declared.ops.Call.TheVariants as calls
use Rattle.xp_words.specs.declared.ops.ExtOp.{ExtOp}
use Rattle.xp_words.specs.declared.ops.Op.{Op}
use Rattle.xp_words.specs.declared.ops.Op.TheVariants as ops
use Rattle.xp_words.specs.Machine.{Machine}
use Rattle.kind_words.specs.Kinds.{dead_kind, live_kind}
use Rattle.table_law.specs.Plain.{Share}
use Rattle.script_law.specs.Scripts.{Logged, script_alone}
use Rattle.script_law.specs.Values.{Answer, Line, Solo, Whose, Why}

-- ---- 16 frames, of which the first 8 are the domain's, and the others free; all are dead and of no type
abbrev pub whose : Whose
whose = record { machine = record { frames = 16; limit = 67108863; page_limit = 16 ∷ []; privilege = 0 ∷ []; vcpu_domain = 0 ∷ [] }; domain = 0 }

-- a frame of the domain with so many references, of which one is its allocation
abbrev pub owned : ℕ → Option Share
owned count = Some (record { owner = 0; allocated = true; count = count })

abbrev pub opening : (ℕ → ℕ → ℕ) → Solo
opening cells =
    record {
      frames = record { shares = λ g. if nat_lt g 8 then owned 1 else None; kinds = λ g. dead_kind kinds.None false 0; cells = cells };
      maps = λ f. 2 ^ 64 - 1;
      own = λ k. 0;
      privileges = λ d. 0;
      lives = λ d. 0;
    }

-- its cells: that one is this word, and the others are
abbrev pub cell : ℕ → ℕ → ℕ → (ℕ → ℕ → ℕ) → ℕ → ℕ → ℕ
cell f i x others g j = if (g == f) && (j == i) then x else others g j

abbrev pub empty : ℕ → ℕ → ℕ
empty g j = 0

-- tables of levels 4 to 1 in frames 1 to 4, one below the other; the last one maps frame 5, and itself read-only
abbrev pub tables : ℕ → ℕ → ℕ
tables = cell 1 0 0x2003 (cell 2 0 0x3003 (cell 3 0 0x4003 (cell 4 0 0x5003 (cell 4 1 0x4001 empty))))

-- ---- operations
abbrev pub ext_call : ℕ → ℕ → ℕ → Call
ext_call command first second = calls.Ext (record { command = command; first = first; second = second } ∷ [])

abbrev pub ext : ℕ → ℕ → ℕ → Op
ext command first second = ops.One (ext_call command first second)

abbrev pub pin_as : ℕ → ℕ → Op
pin_as level f = ext (level - 1) f 0

abbrev pub unpin : ℕ → Op
unpin f = ext 4 f 0

abbrev pub new_base : ℕ → Op
new_base f = ext 5 f 0

abbrev pub update_call : ℕ → ℕ → Call
update_call ptr val = calls.Mmu 0x7ff0 (record { ptr = ptr; val = val } ∷ [])

abbrev pub update : ℕ → ℕ → Op
update ptr val = ops.One (update_call ptr val)

abbrev pub memory : ℕ → ℕ → List ℕ → Op
memory command order items = ops.One (calls.Mem command order items)

-- ---- answers and kinds
abbrev pub ok : ℕ → Answer
ok value = record { done = 1; value = value; refusal = None }

abbrev pub no : Why → Answer
no y = record { done = 0; value = 0; refusal = Some y }

abbrev pub pinned : PageType → ℕ → KindWord
pinned kind number = record (live_kind kind number) { pinned = true }

abbrev pub answers : List Op → Solo → List Answer
answers script s = map (λ (l : Logged). l.answer) (script_alone whose script s).log

abbrev pub lines : List Op → Solo → List (List Line)
lines script s = map (λ (l : Logged). l.lines) (script_alone whose script s).log

abbrev pub left : List Op → Solo → Solo
left script s = (script_alone whose script s).left
