-- Lists, calls, operations and scripts of one vCPU alone: what each answers and logs, and what it leaves.
use Rattle.std.specs.Prelude.{ℕ, zero, suc, ◌+◌, ◌^◌, ◌==◌, nat_lt, if◌then◌else◌, List, [], ◌∷◌, ◌++◌, drop, length, Option, Some, None}
use Rattle.xp_words.specs.declared.ops.Call.{Call}
use Rattle.xp_words.specs.declared.ops.Call.TheVariants as calls
use Rattle.xp_words.specs.declared.ops.Op.{Op}
use Rattle.xp_words.specs.declared.ops.Op.TheVariants as ops
use Rattle.xp_words.specs.declared.ops.Pair.{Pair}
use Rattle.xp_words.specs.declared.reply.Refusal.{Refusal}
use Rattle.xp_words.specs.declared.reply.Refusal.TheVariants.{BadCommand, BatchLong, Dying}
use Rattle.foreign_map.specs.Owning.{frames_of, refuse_owners, tables_of}
use Rattle.script_law.specs.Destroying.{destroy}
use Rattle.script_law.specs.Elements.{ext_alone, pair_alone}
use Rattle.script_law.specs.Memory.{count_in, done_before, extents_of, list_refusal, reserve}
use Rattle.script_law.specs.Pages.{set_descriptor, set_gdt}
use Rattle.script_law.specs.Values.{Solo, Whose, Why, Answer, Called, Line, Numbers, Outcome, of_domains}
use Rattle.script_law.specs.Walks.{map_word, read_at, touch_ldt, write_at}

-- ---- an operation, or a call of one: its answer, what it logs before that, and what it leaves
pub record Answered : Type 0 where
  pub answer : Answer
  pub lines : List Line
  pub left : Solo

abbrev pub answered : ℕ → ℕ → Option Why → List Line → Solo → Answered
answered done value refusal lines s = record { answer = record { done = done; value = value; refusal = refusal }; lines = lines; left = s }

-- refused as a whole
abbrev pub refused : Refusal → Solo → Answered
refused x s = answered 0 0 (Some (Numbers x)) [] s

-- behind these lines
abbrev pub logged_behind : List Line → Answered → Answered
logged_behind lines a = record a { lines = lines ++ a.lines }

-- the next one goes on from the number of elements that are done; behind a refusal there is none
abbrev pub next_of : Answered → Option Why → (ℕ → Solo → Answered) → Answered
next_of a None next = logged_behind a.lines (next a.answer.done a.left)
next_of a (Some y) next = a

abbrev pub and_then : Answered → (ℕ → Solo → Answered) → Answered
and_then a next = next_of a a.answer.refusal next

-- ---- lists: one element behind the other, until one is refused
-- element number k; it is done, or not, and so many are done then
abbrev pub done_with : ℕ → Option Why → ℕ
done_with k None = suc k
done_with k (Some y) = k

abbrev pub element : ℕ → Outcome → Answered
element k o = answered (done_with k o.refusal) 0 o.refusal o.lines o.left

-- `one` is told the number of the element
unfoldable pub in_order : {E : Type 0} → (ℕ → E → Solo → Outcome) → List E → ℕ → Solo → Answered
in_order one [] k s = answered k 0 None [] s
in_order one (e ∷ es) k s = and_then (element k (one k e s)) (in_order one es)

abbrev pub listed : {E : Type 0} → (E → Solo → Outcome) → List E → Solo → Answered
listed one es s = if nat_lt 512 (length es) then refused BatchLong s else in_order (λ k. one) es 0 s

-- ---- pairs, for the owners that a number names
abbrev pub owned_by : Whose → ℕ → List Pair → Solo → Option Refusal → Answered
owned_by w foreign pairs s (Some x) = refused x s
owned_by w foreign pairs s None = listed (pair_alone w (record { tables = tables_of w.domain foreign; frames = frames_of w.domain foreign })) pairs s

-- a list that is too long or empty names nobody
abbrev pub owned_pairs : Whose → ℕ → List Pair → Solo → Answered
owned_pairs w foreign [] s = answered 0 0 None [] s
owned_pairs w foreign pairs s = if nat_lt 512 (length pairs) then refused BatchLong s else owned_by w foreign pairs s (refuse_owners w.machine (of_domains s) w.domain foreign)

-- ---- extents: from the first one that the command does not say is done
abbrev pub extents_by : Whose → ℕ → ℕ → ℕ → List ℕ → Solo → Option Refusal → Answered
extents_by w call command order items s (Some x) = refused x s
extents_by w call command order items s None =
    if count_in command items == 0 then answered 0 0 None [] s
    else in_order (λ k. reserve w (2 ^ order) call k) (drop (done_before command) (extents_of command items)) (done_before command) s

abbrev pub extents : Whose → ℕ → ℕ → ℕ → List ℕ → Solo → Answered
extents w call command order items s = extents_by w call command order items s (list_refusal command order items)

-- ---- single operations: done once, or not
abbrev pub once_by : Outcome → Option Why → Answered
once_by o None = answered 1 o.value None o.lines o.left
once_by o (Some y) = answered 0 0 (Some y) o.lines o.left

abbrev pub once : Outcome → Answered
once o = once_by o o.refusal

-- one that answers no value
abbrev pub single : Outcome → Answered
single o = once (record o { value = 0 })

-- ---- calls: `call` is its number in a multicall, or 0
-- the number that stands for the own domain (`DOMID_SELF` of xen.h)
abbrev pub own_frames : ℕ
own_frames = 0x7ff0

abbrev pub call_alone : Whose → ℕ → Call → Solo → Answered
call_alone w call (calls.Mmu foreign pairs) s = owned_pairs w foreign pairs s
call_alone w call (calls.Ext list) s = listed (ext_alone w) list s
call_alone w call (calls.Va va word flags) s = single (map_word w own_frames va word flags s)
call_alone w call (calls.VaOther va word flags domain) s = single (map_word w domain va word flags s)
call_alone w call (calls.Gdt entries frames) s = single (set_gdt w.machine w.domain entries frames s)
call_alone w call (calls.Desc address word) s = single (set_descriptor w.machine w.domain address word s)
call_alone w call (calls.Mem command order items) s = extents w call command order items s

-- ---- multicalls: each call is answered, whether it is done or refused, and has its answer in the log
abbrev pub called : ℕ → Answered → Answered
called call a = answered call 0 None (a.lines ++ Called call a.answer ∷ []) a.left

unfoldable pub calls_in_order : Whose → List Call → ℕ → Solo → Answered
calls_in_order w [] k s = answered k 0 None [] s
calls_in_order w (c ∷ cs) k s = and_then (called (k + 1) (call_alone w (k + 1) c s)) (calls_in_order w cs)

abbrev pub multicall : Whose → List Call → Solo → Answered
multicall w cs s = if nat_lt 64 (length cs) then refused BatchLong s else calls_in_order w cs 0 s

-- ---- operations
-- One that is not built is refused as an unknown command.
abbrev pub live_alone : Whose → Op → Solo → Answered
live_alone w (ops.One call) s = call_alone w 0 call s
live_alone w (ops.Multi cs) s = multicall w cs s
live_alone w (ops.Read user va) s = once (read_at w.machine user va s)
live_alone w (ops.Write user va val) s = once (write_at w.machine user va val s)
live_alone w (ops.TouchLdt page) s = single (touch_ldt w.machine w.domain page s)
live_alone w (ops.Destroy domain) s = once (destroy w domain s)
live_alone w _ s = refused BadCommand s

-- where the own domain dies, or is dead, each is refused
abbrev pub alone_where : Whose → Op → Solo → ℕ → Answered
alone_where w op s zero = live_alone w op s
alone_where w op s (suc life) = refused (Dying w.domain (suc life)) s

abbrev pub op_alone : Whose → Op → Solo → Answered
op_alone w op s = alone_where w op s (s.lives w.domain)

-- ---- scripts: what is logged of each operation, in order, and what the last one leaves
pub record Logged : Type 0 where
  pub lines : List Line
  pub answer : Answer

pub record Ended : Type 0 where
  pub log : List Logged
  pub left : Solo

-- a script of one operation
abbrev pub ended_by : Answered → Ended
ended_by a = record { log = record { lines = a.lines; answer = a.answer } ∷ []; left = a.left }

-- the second behind the first
abbrev pub joined : Ended → (Solo → Ended) → Ended
joined e next = record { log = e.log ++ (next e.left).log; left = (next e.left).left }

unfoldable pub script_alone : Whose → List Op → Solo → Ended
script_alone w [] s = record { log = []; left = s }
script_alone w (op ∷ ops) s = joined (ended_by (op_alone w op s)) (script_alone w ops)
