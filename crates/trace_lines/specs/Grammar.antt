-- The forms of lines.
use Rattle.std.specs.Prelude.{ℕ, List, [], ◌∷◌, Option, Some, None, Result, Ok, Err, Bool, true, false, ◌==◌, if◌then◌else◌, codes, slice_index}
use Rattle.std.specs.List.{slice_split}
use Rattle.std.specs.Str.{bytes_eq}
use Rattle.xp_words.specs.declared.ops.Pair.{Pair}
use Rattle.xp_words.specs.declared.ops.ExtOp.{ExtOp}
use Rattle.xp_words.specs.declared.ops.Call.{Call}
use Rattle.xp_words.specs.declared.ops.Call.TheVariants as calls
use Rattle.xp_words.specs.declared.ops.Op.{Op}
use Rattle.xp_words.specs.declared.ops.Op.TheVariants as ops
use Rattle.trace_lines.specs.declared.fault.LineFault.{LineFault}
use Rattle.trace_lines.specs.declared.call.Hypercall.{Hypercall}
use Rattle.trace_lines.specs.declared.call.Hypercall.TheVariants as hypercalls
use Rattle.trace_lines.specs.declared.line.Line.{Line}
use Rattle.trace_lines.specs.declared.line.Line.TheVariants as lines
use Rattle.trace_lines.specs.Numbers.{number_of}
use Rattle.trace_lines.specs.Steps.{bad_line, ◌>>=◌}
use Rattle.trace_lines.specs.Words.{words_of, next_word, next_number, end_at, ok_or_line, is_separator, each}

-- ---- lists

-- the numbers that words spell
abbrev pub numbers_of : List (List ℕ) → Result (List ℕ) LineFault
numbers_of ws = each (λ w. ok_or_line (number_of w)) ws

-- the element that three numbers make
abbrev pub triple_from : List ℕ → ExtOp
triple_from ns = record { command = slice_index ns 0; first = slice_index ns 1; second = slice_index ns 2 }

-- numbers, two by two
unfoldable pub pairs_from : List ℕ → Result (List Pair) LineFault
pairs_from [] = Ok []
pairs_from (a ∷ []) = Err bad_line
pairs_from (a ∷ b ∷ ns) = do
  others ← pairs_from ns
  Ok (record { ptr = a; val = b } ∷ others)

-- the pairs that words spell
abbrev pub spelled_pairs : List (List ℕ) → Result (List Pair) LineFault
spelled_pairs ws = do
  numbers ← numbers_of ws
  pairs_from numbers

-- the pair that the next two words spell, and the words behind them
unfoldable pub next_pair : List (List ℕ) → Result (Pair × List (List ℕ)) LineFault
next_pair ws = do
  ptr ← next_number ws
  val ← next_number ptr.1
  Ok (record { ptr = ptr.0; val = val.0 }, val.1)

-- numbers, three by three
unfoldable pub triples_from : List ℕ → Result (List ExtOp) LineFault
triples_from [] = Ok []
triples_from (a ∷ []) = Err bad_line
triples_from (a ∷ b ∷ []) = Err bad_line
triples_from (a ∷ b ∷ c ∷ ns) = do
  others ← triples_from ns
  Ok (record { command = a; first = b; second = c } ∷ others)

-- ---- the calls that may stand in a multi, each up to its last word

-- mmu FOREIGN and pairs PTR VAL
unfoldable pub mmu_of : List (List ℕ) → Result Call LineFault
mmu_of ws = do
  foreign ← next_number ws
  numbers ← numbers_of foreign.1
  pairs ← pairs_from numbers
  Ok (calls.Mmu foreign.0 pairs)

-- ext and triples COMMAND FIRST SECOND
unfoldable pub ext_of : List (List ℕ) → Result Call LineFault
ext_of ws = do
  numbers ← numbers_of ws
  list ← triples_from numbers
  Ok (calls.Ext list)

-- va VA VAL FLAGS
unfoldable pub va_of : List (List ℕ) → Result Call LineFault
va_of ws = do
  va ← next_number ws
  val ← next_number va.1
  flags ← next_number val.1
  e ← end_at flags.1
  Ok (calls.Va va.0 val.0 flags.0)

-- vaother VA VAL FLAGS DOMAIN
unfoldable pub va_other_of : List (List ℕ) → Result Call LineFault
va_other_of ws = do
  va ← next_number ws
  val ← next_number va.1
  flags ← next_number val.1
  domain ← next_number flags.1
  e ← end_at domain.1
  Ok (calls.VaOther va.0 val.0 flags.0 domain.0)

-- gdt ENTRIES and frames
unfoldable pub gdt_of : List (List ℕ) → Result Call LineFault
gdt_of ws = do
  entries ← next_number ws
  frames ← numbers_of entries.1
  Ok (calls.Gdt entries.0 frames)

-- desc ADDRESS WORD
unfoldable pub desc_of : List (List ℕ) → Result Call LineFault
desc_of ws = do
  address ← next_number ws
  word ← next_number address.1
  e ← end_at word.1
  Ok (calls.Desc address.0 word.0)

-- mem COMMAND ORDER and items
unfoldable pub mem_of : List (List ℕ) → Result Call LineFault
mem_of ws = do
  command ← next_number ws
  order ← next_number command.1
  items ← numbers_of order.1
  Ok (calls.Mem command.0 order.0 items)

-- the hypercall of a name
unfoldable pub hypercall_of : List ℕ → Option Hypercall
hypercall_of w = if bytes_eq w (codes "mmu") then Some hypercalls.Mmu
    else if bytes_eq w (codes "ext") then Some hypercalls.Ext
    else if bytes_eq w (codes "mem") then Some hypercalls.Mem
    else if bytes_eq w (codes "va") then Some hypercalls.Va
    else if bytes_eq w (codes "vaother") then Some hypercalls.VaOther
    else if bytes_eq w (codes "gdt") then Some hypercalls.Gdt
    else if bytes_eq w (codes "desc") then Some hypercalls.Desc
    else None

-- a call of that hypercall, with all the words as its numbers
unfoldable pub call_by : Hypercall → List (List ℕ) → Result Call LineFault
call_by hypercalls.Mmu ws = mmu_of ws
call_by hypercalls.Ext ws = ext_of ws
call_by hypercalls.Va ws = va_of ws
call_by hypercalls.VaOther ws = va_other_of ws
call_by hypercalls.Gdt ws = gdt_of ws
call_by hypercalls.Desc ws = desc_of ws
call_by hypercalls.Mem ws = mem_of ws

-- a call, by its name and the numbers behind it
unfoldable pub call_of : List (List ℕ) → Result Call LineFault
call_of ws = do
  name ← next_word ws
  hypercall ← ok_or_line (hypercall_of name.0)
  call_by hypercall name.1

-- ---- operations, each up to its last word

-- one call or more, with the word `;` between two
abbrev pub calls_of : List (List ℕ) → Result (List Call) LineFault
calls_of ws = each call_of (slice_split is_separator ws)

-- multi and its calls
unfoldable pub multi_of : List (List ℕ) → Result Op LineFault
multi_of ws = do
  list ← calls_of ws
  Ok (ops.Multi list)

-- whether the user's base is meant, and the words behind that
unfoldable pub next_base : List (List ℕ) → Result (Bool × List (List ℕ)) LineFault
next_base ws = do
  word ← next_word ws
  if bytes_eq word.0 (codes "k") then Ok (false, word.1) else if bytes_eq word.0 (codes "u") then Ok (true, word.1) else Err bad_line

-- read k VA or read u VA
unfoldable pub read_of : List (List ℕ) → Result Op LineFault
read_of ws = do
  user ← next_base ws
  va ← next_number user.1
  e ← end_at va.1
  Ok (ops.Read user.0 va.0)

-- write k VA VAL or write u VA VAL
unfoldable pub write_of : List (List ℕ) → Result Op LineFault
write_of ws = do
  user ← next_base ws
  va ← next_number user.1
  val ← next_number va.1
  e ← end_at val.1
  Ok (ops.Write user.0 va.0 val.0)

-- ldt PAGE
unfoldable pub touch_ldt_of : List (List ℕ) → Result Op LineFault
touch_ldt_of ws = do
  page ← next_number ws
  e ← end_at page.1
  Ok (ops.TouchLdt page.0)

-- destroy DOMAIN
unfoldable pub destroy_of : List (List ℕ) → Result Op LineFault
destroy_of ws = do
  domain ← next_number ws
  e ← end_at domain.1
  Ok (ops.Destroy domain.0)

-- grant TO OVER
unfoldable pub grant_of : List (List ℕ) → Result Op LineFault
grant_of ws = do
  domain ← next_number ws
  over ← next_number domain.1
  e ← end_at over.1
  Ok (ops.Grant domain.0 over.0)

-- revoke TO OVER
unfoldable pub revoke_of : List (List ℕ) → Result Op LineFault
revoke_of ws = do
  domain ← next_number ws
  over ← next_number domain.1
  e ← end_at over.1
  Ok (ops.Revoke domain.0 over.0)

-- ptwr k VA VAL or ptwr u VA VAL
unfoldable pub ptwr_of : List (List ℕ) → Result Op LineFault
ptwr_of ws = do
  user ← next_base ws
  va ← next_number user.1
  val ← next_number va.1
  e ← end_at val.1
  Ok (ops.Ptwr user.0 va.0 val.0)

-- xchg FIRST FROM TO and items
unfoldable pub xchg_of : List (List ℕ) → Result Op LineFault
xchg_of ws = do
  first ← next_number ws
  before ← next_number first.1
  after ← next_number before.1
  items ← numbers_of after.1
  Ok (ops.Xchg first.0 before.0 after.0 items)

-- the operations that a trace of version 2 alone has
unfoldable pub newer_by : List ℕ → List (List ℕ) → Result Op LineFault
newer_by name ws = if bytes_eq name (codes "ptwr") then ptwr_of ws
    else if bytes_eq name (codes "xchg") then xchg_of ws
    else if bytes_eq name (codes "grant") then grant_of ws
    else if bytes_eq name (codes "revoke") then revoke_of ws
    else Err bad_line

-- the operations that are no call
unfoldable pub other_by : ℕ → List ℕ → List (List ℕ) → Result Op LineFault
other_by version name ws = if bytes_eq name (codes "multi") then multi_of ws
    else if bytes_eq name (codes "read") then read_of ws
    else if bytes_eq name (codes "write") then write_of ws
    else if bytes_eq name (codes "ldt") then touch_ldt_of ws
    else if bytes_eq name (codes "destroy") then destroy_of ws
    else if version == 2 then newer_by name ws
    else Err bad_line

-- a call as an operation of its own
abbrev pub one_by : Hypercall → List (List ℕ) → Result Op LineFault
one_by hypercall ws = do
  call ← call_by hypercall ws
  Ok (ops.One call)

-- an operation, by the call that its name is, or else by its name
unfoldable pub operation_by : ℕ → Option Hypercall → List ℕ → List (List ℕ) → Result Op LineFault
operation_by version None name ws = other_by version name ws
operation_by version (Some hypercall) name ws = one_by hypercall ws

-- an operation, by its first word and all the others
unfoldable pub operation_of : ℕ → List (List ℕ) → Result Op LineFault
operation_of version ws = do
  name ← next_word ws
  operation_by version (hypercall_of name.0) name.0 name.1

-- ---- lines

-- xen-pv-trace 1 or xen-pv-trace 2
unfoldable pub header_line_of : List (List ℕ) → Result Line LineFault
header_line_of ws = do
  version ← next_word ws
  e ← end_at version.1
  if bytes_eq version.0 (codes "1") then Ok (lines.Header 1) else if bytes_eq version.0 (codes "2") then Ok (lines.Header 2) else Err bad_line

-- frames F
unfoldable pub frames_line_of : List (List ℕ) → Result Line LineFault
frames_line_of ws = do
  count ← next_number ws
  e ← end_at count.1
  Ok (lines.Frames count.0)

-- limit N
unfoldable pub limit_line_of : List (List ℕ) → Result Line LineFault
limit_line_of ws = do
  count ← next_number ws
  e ← end_at count.1
  Ok (lines.Limit count.0)

-- clock N
unfoldable pub clock_line_of : List (List ℕ) → Result Line LineFault
clock_line_of ws = do
  start ← next_number ws
  e ← end_at start.1
  Ok (lines.Clock start.0)

-- domain LIMIT
unfoldable pub domain_line_of : List (List ℕ) → Result Line LineFault
domain_line_of ws = do
  limit ← next_number ws
  e ← end_at limit.1
  Ok (lines.Domain limit.0)

-- priv A B
unfoldable pub priv_line_of : List (List ℕ) → Result Line LineFault
priv_line_of ws = do
  domain ← next_number ws
  over ← next_number domain.1
  e ← end_at over.1
  Ok (lines.Priv domain.0 over.0)

-- vcpu D
unfoldable pub vcpu_line_of : List (List ℕ) → Result Line LineFault
vcpu_line_of ws = do
  domain ← next_number ws
  e ← end_at domain.1
  Ok (lines.Vcpu domain.0)

-- own D FIRST COUNT
unfoldable pub own_line_of : List (List ℕ) → Result Line LineFault
own_line_of ws = do
  domain ← next_number ws
  first ← next_number domain.1
  count ← next_number first.1
  e ← end_at count.1
  Ok (lines.Own domain.0 first.0 count.0)

-- cell F FIRST COUNT VALUE
unfoldable pub cell_line_of : List (List ℕ) → Result Line LineFault
cell_line_of ws = do
  frame ← next_number ws
  first ← next_number frame.1
  count ← next_number first.1
  value ← next_number count.1
  e ← end_at value.1
  Ok (lines.Cell frame.0 first.0 count.0 value.0)

-- op V OPERATION
unfoldable pub op_line_of : ℕ → List (List ℕ) → Result Line LineFault
op_line_of version ws = do
  vcpu ← next_number ws
  op ← operation_of version vcpu.1
  Ok (lines.Op vcpu.0 op)

-- turn V COUNT
unfoldable pub turn_line_of : List (List ℕ) → Result Line LineFault
turn_line_of ws = do
  vcpu ← next_number ws
  count ← next_number vcpu.1
  e ← end_at count.1
  Ok (lines.Turn vcpu.0 count.0)

-- end
unfoldable pub end_line_of : List (List ℕ) → Result Line LineFault
end_line_of ws = do
  e ← end_at ws
  Ok lines.End

-- the forms that stand in a trace but a few times
unfoldable pub opening_by : List ℕ → List (List ℕ) → Result Line LineFault
opening_by word ws = if bytes_eq word (codes "vcpu") then vcpu_line_of ws
    else if bytes_eq word (codes "domain") then domain_line_of ws
    else if bytes_eq word (codes "priv") then priv_line_of ws
    else if bytes_eq word (codes "frames") then frames_line_of ws
    else if bytes_eq word (codes "limit") then limit_line_of ws
    else if bytes_eq word (codes "clock") then clock_line_of ws
    else if bytes_eq word (codes "xen-pv-trace") then header_line_of ws
    else if bytes_eq word (codes "end") then end_line_of ws
    else Err bad_line

-- a line, by its first word
unfoldable pub line_by : ℕ → List ℕ → List (List ℕ) → Result Line LineFault
line_by version word ws = if bytes_eq word (codes "op") then op_line_of version ws
    else if bytes_eq word (codes "turn") then turn_line_of ws
    else if bytes_eq word (codes "cell") then cell_line_of ws
    else if bytes_eq word (codes "own") then own_line_of ws
    else opening_by word ws

-- what a line says in a trace of that version
unfoldable pub line_of : ℕ → List ℕ → Result Line LineFault
line_of version line = do
  word ← next_word (words_of line)
  line_by version word.0 word.1
