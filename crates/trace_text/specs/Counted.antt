-- What is counted over the lines of a trace.
use Rattle.std.specs.Prelude.{ℕ, ◌+◌, ◌*◌, ◌%◌, ◌==◌, ◌&&◌, ◌||◌, nat_le, nat_lt, if◌then◌else◌, Bool, List, length, sum_by, slice_index}
use Rattle.xp_words.specs.declared.ops.Call.{Call}
use Rattle.xp_words.specs.declared.ops.Call.TheVariants as calls
use Rattle.xp_words.specs.declared.ops.Op.{Op}
use Rattle.xp_words.specs.declared.ops.Op.TheVariants as ops
use Rattle.trace_text.specs.declared.trace.Own.{Own}
use Rattle.trace_text.specs.declared.trace.TurnRun.{TurnRun}

-- the numbers in the list of a call
unfoldable pub numbers_in_call : Call → ℕ
numbers_in_call (calls.Mmu foreign pairs) = 2 * length pairs
numbers_in_call (calls.Ext list) = 3 * length list
numbers_in_call (calls.Va va val flags) = 0
numbers_in_call (calls.VaOther va val flags domain) = 0
numbers_in_call (calls.Gdt entries frames) = length frames
numbers_in_call (calls.Desc address word) = 0
numbers_in_call (calls.Mem command order items) = length items

-- the numbers in the list of an operation, or in the lists of its calls
unfoldable pub numbers_in : Op → ℕ
numbers_in (ops.One call) = numbers_in_call call
numbers_in (ops.Multi list) = sum_by numbers_in_call list
numbers_in (ops.Read user va) = 0
numbers_in (ops.Write user va val) = 0
numbers_in (ops.TouchLdt page) = 0
numbers_in (ops.Destroy domain) = 0
numbers_in (ops.Grant to over) = 0
numbers_in (ops.Revoke to over) = 0
numbers_in (ops.Ptwr user va val) = 0
numbers_in (ops.Xchg first from to items) = length items

-- An increase of exactly one item asks for as many extents as the item says, whatever stands above the
-- six bits of the command; every other memory operation for one extent an item.
unfoldable pub extents_in_call : Call → ℕ
extents_in_call (calls.Mmu foreign pairs) = 0
extents_in_call (calls.Ext list) = 0
extents_in_call (calls.Va va val flags) = 0
extents_in_call (calls.VaOther va val flags domain) = 0
extents_in_call (calls.Gdt entries frames) = 0
extents_in_call (calls.Desc address word) = 0
extents_in_call (calls.Mem command order items) =
    if (command % 64 == 0) && (length items == 1) then slice_index items 0 else length items

unfoldable pub extents_in : Op → ℕ
extents_in (ops.One call) = extents_in_call call
extents_in (ops.Multi list) = sum_by extents_in_call list
extents_in (ops.Read user va) = 0
extents_in (ops.Write user va val) = 0
extents_in (ops.TouchLdt page) = 0
extents_in (ops.Destroy domain) = 0
extents_in (ops.Grant to over) = 0
extents_in (ops.Revoke to over) = 0
extents_in (ops.Ptwr user va val) = 0
extents_in (ops.Xchg first from to items) = length items

unfoldable pub destroys_in : Op → ℕ
destroys_in (ops.One call) = 0
destroys_in (ops.Multi list) = 0
destroys_in (ops.Read user va) = 0
destroys_in (ops.Write user va val) = 0
destroys_in (ops.TouchLdt page) = 0
destroys_in (ops.Destroy domain) = 1
destroys_in (ops.Grant to over) = 0
destroys_in (ops.Revoke to over) = 0
destroys_in (ops.Ptwr user va val) = 0
destroys_in (ops.Xchg first from to items) = 0

abbrev pub ops_of : List (List Op) → ℕ
ops_of scripts = sum_by length scripts

abbrev pub destroys_of : List (List Op) → ℕ
destroys_of scripts = sum_by (λ script. sum_by destroys_in script) scripts

abbrev pub extents_of : List (List Op) → ℕ
extents_of scripts = sum_by (λ script. sum_by extents_in script) scripts

abbrev pub turns_of : List TurnRun → ℕ
turns_of turns = sum_by (λ t. t.count) turns

abbrev pub pages_in : ℕ → Own → ℕ
pages_in d o = if o.domain == d then o.count else 0

-- how many frames the domain owns
abbrev pub pages_of : ℕ → List Own → ℕ
pages_of d owned = sum_by (pages_in d) owned

-- whether the run has the frame
abbrev pub has_frame : ℕ → Own → Bool
has_frame f o = nat_le o.first f && nat_lt f (o.first + o.count)

-- no frame is in both
abbrev pub is_apart : Own → Own → Bool
is_apart a b = nat_le (a.first + a.count) b.first || nat_le (b.first + b.count) a.first
