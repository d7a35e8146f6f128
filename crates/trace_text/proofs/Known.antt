-- A line that was read can be spelled: its numbers are words, and its operation is one of the version.
use Rattle.std.proofs.Common.{◌≡◌, ℕ, ◌^◌, ◌<◌, List, [], ◌∷◌, length, drop, slice_index, Option, Some, None, Result, Ok, Err, Bool, true, false, ◌==◌, ◌&&◌, nat_lt, if◌then◌else◌, codes, refl, arith, IfOk, inl, inr}
use Rattle.std.specs.List.{All, slice_split}
use Rattle.std.specs.Str.{bytes_eq}
use Rattle.std.proofs.lemmas.Bool.Decides.{eqb_tells}
use Rattle.std.proofs.lemmas.Bool.{ltb-true}
use Rattle.std.specs.List.{list_all}
use Rattle.std.specs.Str.Parse.{digits_value_after}
use Rattle.std.proofs.lemmas.List.Elements.{All-nil, All-cons, All-head, All-tail}
use Rattle.std.proofs.lemmas.List.Splits.{length-slice_split}
use Rattle.xp_words.specs.declared.ops.Pair.{Pair}
use Rattle.xp_words.specs.declared.ops.ExtOp.{ExtOp}
use Rattle.xp_words.specs.declared.ops.Call.{Call}
use Rattle.xp_words.specs.declared.ops.Op.TheVariants as ops
use Rattle.trace_lines.specs.declared.fault.LineFault.{LineFault}
use Rattle.trace_lines.specs.declared.fault.LineError.{LineError}
use Rattle.trace_lines.specs.declared.call.Hypercall.{Hypercall}
use Rattle.trace_lines.specs.declared.call.Hypercall.TheVariants as hypercalls
use Rattle.trace_lines.specs.declared.line.Line.{Line}
use Rattle.trace_lines.specs.declared.line.Line.TheVariants as lines
use Rattle.trace_lines.specs.Steps.{◌>>=◌, bad_line, Gives}
use Rattle.trace_lines.specs.Numbers.{number_of, is_digit, numeral, numeral_after, is_proper}
use Rattle.trace_lines.specs.Words.{words_of, next_word, next_number, end_at, ok_or_line, is_separator, each}
use Rattle.trace_lines.specs.Grammar.{line_of, line_by, opening_by, header_line_of, frames_line_of, limit_line_of, clock_line_of, domain_line_of, priv_line_of, vcpu_line_of, own_line_of, cell_line_of, op_line_of, turn_line_of, end_line_of, operation_of, operation_by, other_by, newer_by, multi_of, calls_of, read_of, write_of, touch_ldt_of, destroy_of, grant_of, revoke_of, ptwr_of, xchg_of, call_of, call_by, hypercall_of, next_base, numbers_of, pairs_from, triples_from, mmu_of, ext_of, va_of, va_other_of, gdt_of, desc_of, mem_of}
use Rattle.trace_lines.specs.Spelling.{IsSpellable, IsSpellableOp, IsSpellableCall, IsSpellablePair, IsSpellableExt, AreWords}

abbrev always : {A : Type 0} → (A → Type 0) → Result A LineFault → Type 0
always P (Ok x) = P x
always P (Err e) = Unit {0}

-- what the step gives has the property
record Always {A : Type 0} (P : A → Type 0) (r : Result A LineFault) : Type 0 where
  holds : always P r

given : {A : Type 0} (P : A → Type 0) (x : A) → P x → Always P (Ok x)
given P x is = record { holds = is }

failed : {A : Type 0} (P : A → Type 0) (e : LineFault) → Always P (Err e)
failed P e = record { holds = tt }

bind : {A B : Type 0} (P : B → Type 0) (r : Result A LineFault) (f : A → Result B LineFault) → ((x : A) → Always P (f x)) → Always P (r >>= f)
bind P (Ok x) f all = all x
bind P (Err e) f all = failed P e

bind_by : {A B : Type 0} (Q : A → Type 0) (P : B → Type 0) (r : Result A LineFault) (f : A → Result B LineFault) → Always Q r → ((x : A) → Q x → Always P (f x)) → Always P (r >>= f)
bind_by Q P (Ok x) f is all = all x is.holds
bind_by Q P (Err e) f is all = failed P e

choice : {A : Type 0} (P : A → Type 0) (b : Bool) (x y : Result A LineFault) → Always P x → Always P y → Always P (if b then x else y)
choice P b x y here there = elim b as (λ c. Always P (if c then x else y)) [ true ↦ here | false ↦ there ]

each_all : {A B : Type 0} (P : B → Type 0) (f : A → Result B LineFault) (xs : List A) → ((x : A) → Always P (f x)) → Always (All P) (each f xs)
unfolding each
each_all P f [] all = given (All P) [] (All-nil P)
each_all P f (x ∷ xs) all =
    bind_by P (All P) (f x) _ (all x) (λ y is.
    bind_by (All P) (All P) (each f xs) _ (each_all P f xs all) (λ ys are. given (All P) (y ∷ ys) (All-cons P y ys is are)))

-- ---- numbers

abbrev is_word : Option ℕ → Type 0
is_word None = Unit {0}
is_word (Some n) = n < 2 ^ 64

test_word : (a b : Bool) (n : ℕ) → (b ≡ true → n < 2 ^ 64) → is_word (if a && b then Some n else None)
test_word true true n small = small refl
test_word true false n small = tt
test_word false b n small = tt

after_word : (base n : ℕ) (ds : List ℕ) → is_word (numeral_after base n ds)
after_word base n ds = test_word (list_all (is_digit base) ds) (nat_lt (digits_value_after base n ds) (2 ^ 64)) (digits_value_after base n ds) (ltb-true _ _)

proper_word : (b : Bool) (o : Option ℕ) → is_word o → is_word (if b then o else None)
proper_word true o is = is
proper_word false o is = tt

numeral_word : (base : ℕ) (ds : List ℕ) → is_word (numeral base ds)
unfolding numeral
numeral_word base ds = proper_word (is_proper ds) (numeral_after base 0 ds) (after_word base 0 ds)

either_word : (b : Bool) (o p : Option ℕ) → is_word o → is_word p → is_word (if b then o else p)
either_word true o p here there = here
either_word false o p here there = there

number_word : (w : List ℕ) → is_word (number_of w)
unfolding number_of
number_word w = either_word ((slice_index w 0 == 48) && (slice_index w 1 == 120)) (numeral 16 (drop 2 w)) (numeral 10 w) (numeral_word 16 (drop 2 w)) (numeral_word 10 w)

some_word : (o : Option ℕ) → is_word o → Always (λ n. n < 2 ^ 64) (ok_or_line o)
some_word None is = failed (λ n. n < 2 ^ 64) bad_line
some_word (Some n) is = given (λ n. n < 2 ^ 64) n is

number_small : (ws : List (List ℕ)) → Always (λ x. x.0 < 2 ^ 64) (next_number ws)
unfolding next_number
number_small ws =
    bind (λ x. x.0 < 2 ^ 64) (next_word ws) _ (λ word.
    bind_by (λ n. n < 2 ^ 64) (λ x. x.0 < 2 ^ 64) (ok_or_line (number_of word.0)) _ (some_word (number_of word.0) (number_word word.0))
    (λ n small. given (λ x. x.0 < 2 ^ 64) (n, word.1) small))

numbers_small : (ws : List (List ℕ)) → Always AreWords (numbers_of ws)
numbers_small ws = each_all (λ n. n < 2 ^ 64) (λ w. ok_or_line (number_of w)) ws (λ w. some_word (number_of w) (number_word w))

pairs_small : (ns : List ℕ) → AreWords ns → Always (All IsSpellablePair) (pairs_from ns)
unfolding pairs_from
pairs_small [] are = given (All IsSpellablePair) [] (All-nil IsSpellablePair)
pairs_small (a ∷ []) are = failed (All IsSpellablePair) bad_line
pairs_small (a ∷ b ∷ ns) are =
    let behind = All-tail (λ n. n < 2 ^ 64) a (b ∷ ns) are in
    bind_by (All IsSpellablePair) (All IsSpellablePair) (pairs_from ns) _ (pairs_small ns (All-tail (λ n. n < 2 ^ 64) b ns behind)) (λ others is.
    given (All IsSpellablePair) (record { ptr = a; val = b } ∷ others) (All-cons IsSpellablePair (record { ptr = a; val = b }) others (All-head (λ n. n < 2 ^ 64) a (b ∷ ns) are, All-head (λ n. n < 2 ^ 64) b ns behind) is))

triples_small : (ns : List ℕ) → AreWords ns → Always (All IsSpellableExt) (triples_from ns)
unfolding triples_from
triples_small [] are = given (All IsSpellableExt) [] (All-nil IsSpellableExt)
triples_small (a ∷ []) are = failed (All IsSpellableExt) bad_line
triples_small (a ∷ b ∷ []) are = failed (All IsSpellableExt) bad_line
triples_small (a ∷ b ∷ c ∷ ns) are =
    let first = All-tail (λ n. n < 2 ^ 64) a (b ∷ c ∷ ns) are in
    let second = All-tail (λ n. n < 2 ^ 64) b (c ∷ ns) first in
    bind_by (All IsSpellableExt) (All IsSpellableExt) (triples_from ns) _ (triples_small ns (All-tail (λ n. n < 2 ^ 64) c ns second)) (λ others is.
    given (All IsSpellableExt) (record { command = a; first = b; second = c } ∷ others) (All-cons IsSpellableExt (record { command = a; first = b; second = c }) others (All-head (λ n. n < 2 ^ 64) a (b ∷ c ∷ ns) are, All-head (λ n. n < 2 ^ 64) b (c ∷ ns) first, All-head (λ n. n < 2 ^ 64) c ns second) is))

-- ---- steps, each by what it reads

number_then : {B : Type 0} (P : B → Type 0) (ws : List (List ℕ)) (f : ℕ × List (List ℕ) → Result B LineFault) → ((x : ℕ × List (List ℕ)) → x.0 < 2 ^ 64 → Always P (f x)) → Always P (next_number ws >>= f)
number_then P ws f all = bind_by (λ x. x.0 < 2 ^ 64) P (next_number ws) f (number_small ws) all

numbers_then : {B : Type 0} (P : B → Type 0) (ws : List (List ℕ)) (f : List ℕ → Result B LineFault) → ((ns : List ℕ) → AreWords ns → Always P (f ns)) → Always P (numbers_of ws >>= f)
numbers_then P ws f all = bind_by AreWords P (numbers_of ws) f (numbers_small ws) all

pairs_then : {B : Type 0} (P : B → Type 0) (ns : List ℕ) (f : List Pair → Result B LineFault) → AreWords ns → ((ps : List Pair) → All IsSpellablePair ps → Always P (f ps)) → Always P (pairs_from ns >>= f)
pairs_then P ns f are all = bind_by (All IsSpellablePair) P (pairs_from ns) f (pairs_small ns are) all

triples_then : {B : Type 0} (P : B → Type 0) (ns : List ℕ) (f : List ExtOp → Result B LineFault) → AreWords ns → ((list : List ExtOp) → All IsSpellableExt list → Always P (f list)) → Always P (triples_from ns >>= f)
triples_then P ns f are all = bind_by (All IsSpellableExt) P (triples_from ns) f (triples_small ns are) all

word_then : {B : Type 0} (P : B → Type 0) (ws : List (List ℕ)) (f : List ℕ × List (List ℕ) → Result B LineFault) → ((x : List ℕ × List (List ℕ)) → Always P (f x)) → Always P (next_word ws >>= f)
word_then P ws f all = bind P (next_word ws) f all

end_then : {B : Type 0} (P : B → Type 0) (ws : List (List ℕ)) (f : Unit {0} → Result B LineFault) → ((x : Unit {0}) → Always P (f x)) → Always P (end_at ws >>= f)
end_then P ws f all = bind P (end_at ws) f all

base_then : {B : Type 0} (P : B → Type 0) (ws : List (List ℕ)) (f : Bool × List (List ℕ) → Result B LineFault) → ((x : Bool × List (List ℕ)) → Always P (f x)) → Always P (next_base ws >>= f)
base_then P ws f all = bind P (next_base ws) f all

ruleset steps = (number_then, numbers_then, pairs_then, triples_then, word_then, end_then, base_then, given)

-- ---- calls

mmu_known : (ws : List (List ℕ)) → Always IsSpellableCall (mmu_of ws)
unfolding mmu_of
mmu_known ws = search steps depth 10

ext_known : (ws : List (List ℕ)) → Always IsSpellableCall (ext_of ws)
unfolding ext_of
ext_known ws = search steps depth 10

va_known : (ws : List (List ℕ)) → Always IsSpellableCall (va_of ws)
unfolding va_of
va_known ws = search steps depth 10

va_other_known : (ws : List (List ℕ)) → Always IsSpellableCall (va_other_of ws)
unfolding va_other_of
va_other_known ws = search steps depth 10

gdt_known : (ws : List (List ℕ)) → Always IsSpellableCall (gdt_of ws)
unfolding gdt_of
gdt_known ws = search steps depth 10

desc_known : (ws : List (List ℕ)) → Always IsSpellableCall (desc_of ws)
unfolding desc_of
desc_known ws = search steps depth 10

mem_known : (ws : List (List ℕ)) → Always IsSpellableCall (mem_of ws)
unfolding mem_of
mem_known ws = search steps depth 10

by_hypercall_known : (hypercall : Hypercall) (ws : List (List ℕ)) → Always IsSpellableCall (call_by hypercall ws)
unfolding call_by
by_hypercall_known hypercalls.Mmu ws = mmu_known ws
by_hypercall_known hypercalls.Ext ws = ext_known ws
by_hypercall_known hypercalls.Va ws = va_known ws
by_hypercall_known hypercalls.VaOther ws = va_other_known ws
by_hypercall_known hypercalls.Gdt ws = gdt_known ws
by_hypercall_known hypercalls.Desc ws = desc_known ws
by_hypercall_known hypercalls.Mem ws = mem_known ws

call_known : (ws : List (List ℕ)) → Always IsSpellableCall (call_of ws)
unfolding call_of
call_known ws = word_then IsSpellableCall ws _ (λ name. bind IsSpellableCall (ok_or_line (hypercall_of name.0)) _ (λ hypercall. by_hypercall_known hypercall name.1))

-- ---- operations

call_then : {B : Type 0} (P : B → Type 0) (hypercall : Hypercall) (ws : List (List ℕ)) (f : Call → Result B LineFault) → ((c : Call) → IsSpellableCall c → Always P (f c)) → Always P (call_by hypercall ws >>= f)
call_then P hypercall ws f all = bind_by IsSpellableCall P (call_by hypercall ws) f (by_hypercall_known hypercall ws) all

-- one result or more
each_some : {A B : Type 0} (f : A → Result B LineFault) (x : A) (xs : List A) → Always (λ ys. 0 < length ys) (each f (x ∷ xs))
unfolding each
each_some f x xs = bind _ (f x) _ (λ y. bind _ (each f xs) _ (λ ys. given _ (y ∷ ys) (omega arith)))

some_parts : {A B : Type 0} (f : A → Result B LineFault) (xs : List A) → 0 < length xs → Always (λ ys. 0 < length ys) (each f xs)
some_parts f [] some = absurd (omega arith)
some_parts f (x ∷ xs) some = each_some f x xs

both_hold : {A : Type 0} (P Q : A → Type 0) (r : Result A LineFault) → Always P r → Always Q r → Always (λ x. P x × Q x) r
both_hold P Q (Ok x) p q = given (λ x. P x × Q x) x (p.holds, q.holds)
both_hold P Q (Err e) p q = failed (λ x. P x × Q x) e

calls_known : (ws : List (List ℕ)) → Always (λ list. (0 < length list) × All IsSpellableCall list) (calls_of ws)
calls_known ws =
    both_hold (λ list. 0 < length list) (All IsSpellableCall) (calls_of ws)
    (some_parts call_of (slice_split is_separator ws) (omega (arith, length-slice_split is_separator ws)))
    (each_all IsSpellableCall call_of (slice_split is_separator ws) call_known)

multi_known : (v : ℕ) (ws : List (List ℕ)) → Always (IsSpellableOp v) (multi_of ws)
unfolding multi_of
multi_known v ws = bind_by (λ list. (0 < length list) × All IsSpellableCall list) (IsSpellableOp v) (calls_of ws) _ (calls_known ws) (λ list is. given (IsSpellableOp v) (ops.Multi list) is)

read_known : (v : ℕ) (ws : List (List ℕ)) → Always (IsSpellableOp v) (read_of ws)
unfolding read_of
read_known v ws = search steps depth 10

write_known : (v : ℕ) (ws : List (List ℕ)) → Always (IsSpellableOp v) (write_of ws)
unfolding write_of
write_known v ws = search steps depth 10

touch_ldt_known : (v : ℕ) (ws : List (List ℕ)) → Always (IsSpellableOp v) (touch_ldt_of ws)
unfolding touch_ldt_of
touch_ldt_known v ws = search steps depth 10

destroy_known : (v : ℕ) (ws : List (List ℕ)) → Always (IsSpellableOp v) (destroy_of ws)
unfolding destroy_of
destroy_known v ws = search steps depth 10

grant_known : (ws : List (List ℕ)) → Always (IsSpellableOp 2) (grant_of ws)
unfolding grant_of
grant_known ws = search steps depth 10

revoke_known : (ws : List (List ℕ)) → Always (IsSpellableOp 2) (revoke_of ws)
unfolding revoke_of
revoke_known ws = search steps depth 10

ptwr_known : (ws : List (List ℕ)) → Always (IsSpellableOp 2) (ptwr_of ws)
unfolding ptwr_of
ptwr_known ws = search steps depth 10

xchg_known : (ws : List (List ℕ)) → Always (IsSpellableOp 2) (xchg_of ws)
unfolding xchg_of
xchg_known ws = search steps depth 10

newer_known : (name : List ℕ) (ws : List (List ℕ)) → Always (IsSpellableOp 2) (newer_by name ws)
unfolding newer_by
newer_known name ws = search (choice, failed, grant_known, revoke_known, ptwr_known, xchg_known)

newer_at : (v : ℕ) (name : List ℕ) (ws : List (List ℕ)) → Always (IsSpellableOp v) (if v == 2 then newer_by name ws else Err bad_line)
newer_at v name ws = elim (eqb_tells v 2) as (λ t. Always (IsSpellableOp v) (if v == 2 then newer_by name ws else Err bad_line)) [
  | inl two ↦ rw two.1 (newer_known name ws)
  | inr other ↦ rw other.0 (failed (IsSpellableOp v) bad_line)
]

-- the operations of version 2 stand behind a test of the version
other_known : (v : ℕ) (name : List ℕ) (ws : List (List ℕ)) → Always (IsSpellableOp v) (other_by v name ws)
unfolding other_by
other_known v name ws = search (choice, multi_known, read_known, write_known, touch_ldt_known, destroy_known, newer_at) depth 12

by_known : (v : ℕ) (hypercall : Option Hypercall) (name : List ℕ) (ws : List (List ℕ)) → Always (IsSpellableOp v) (operation_by v hypercall name ws)
unfolding operation_by
by_known v None name ws = other_known v name ws
by_known v (Some hypercall) name ws = call_then (IsSpellableOp v) hypercall ws _ (λ c is. given (IsSpellableOp v) (ops.One c) is)

operation_known : (v : ℕ) (ws : List (List ℕ)) → Always (IsSpellableOp v) (operation_of v ws)
unfolding operation_of
operation_known v ws = word_then (IsSpellableOp v) ws _ (λ name. by_known v (hypercall_of name.0) name.0 name.1)

-- ---- lines

op_known : (v : ℕ) (ws : List (List ℕ)) → Always (IsSpellable v) (op_line_of v ws)
unfolding op_line_of
op_known v ws =
    number_then (IsSpellable v) ws _ (λ vcpu small.
    bind_by (IsSpellableOp v) (IsSpellable v) (operation_of v vcpu.1) _ (operation_known v vcpu.1) (λ op may. given (IsSpellable v) (lines.Op vcpu.0 op) (small, may)))

header_known : (v : ℕ) (ws : List (List ℕ)) → Always (IsSpellable v) (header_line_of ws)
unfolding header_line_of
header_known v ws =
    word_then (IsSpellable v) ws _ (λ version. end_then (IsSpellable v) version.1 _ (λ e.
    choice (IsSpellable v) (bytes_eq version.0 (codes "1")) (Ok (lines.Header 1)) _ (given (IsSpellable v) (lines.Header 1) (inl refl))
    (choice (IsSpellable v) (bytes_eq version.0 (codes "2")) (Ok (lines.Header 2)) _ (given (IsSpellable v) (lines.Header 2) (inr refl)) (failed (IsSpellable v) bad_line))))

frames_known : (v : ℕ) (ws : List (List ℕ)) → Always (IsSpellable v) (frames_line_of ws)
unfolding frames_line_of
frames_known v ws = search steps depth 10

limit_known : (v : ℕ) (ws : List (List ℕ)) → Always (IsSpellable v) (limit_line_of ws)
unfolding limit_line_of
limit_known v ws = search steps depth 10

clock_known : (v : ℕ) (ws : List (List ℕ)) → Always (IsSpellable v) (clock_line_of ws)
unfolding clock_line_of
clock_known v ws = search steps depth 10

domain_known : (v : ℕ) (ws : List (List ℕ)) → Always (IsSpellable v) (domain_line_of ws)
unfolding domain_line_of
domain_known v ws = search steps depth 10

priv_known : (v : ℕ) (ws : List (List ℕ)) → Always (IsSpellable v) (priv_line_of ws)
unfolding priv_line_of
priv_known v ws = search steps depth 10

vcpu_known : (v : ℕ) (ws : List (List ℕ)) → Always (IsSpellable v) (vcpu_line_of ws)
unfolding vcpu_line_of
vcpu_known v ws = search steps depth 10

own_known : (v : ℕ) (ws : List (List ℕ)) → Always (IsSpellable v) (own_line_of ws)
unfolding own_line_of
own_known v ws = search steps depth 10

cell_known : (v : ℕ) (ws : List (List ℕ)) → Always (IsSpellable v) (cell_line_of ws)
unfolding cell_line_of
cell_known v ws = search steps depth 10

turn_known : (v : ℕ) (ws : List (List ℕ)) → Always (IsSpellable v) (turn_line_of ws)
unfolding turn_line_of
turn_known v ws = search steps depth 10

last_known : (v : ℕ) (ws : List (List ℕ)) → Always (IsSpellable v) (end_line_of ws)
unfolding end_line_of
last_known v ws = search steps depth 10

opening_known : (v : ℕ) (word : List ℕ) (ws : List (List ℕ)) → Always (IsSpellable v) (opening_by word ws)
unfolding opening_by
opening_known v word ws = search (choice, failed, header_known, frames_known, limit_known, clock_known, domain_known, priv_known, vcpu_known, last_known) depth 12

form_known : (v : ℕ) (word : List ℕ) (ws : List (List ℕ)) → Always (IsSpellable v) (line_by v word ws)
unfolding line_by
form_known v word ws = search (choice, op_known, turn_known, cell_known, own_known, opening_known)

line_known : (v : ℕ) (line : List ℕ) → Always (IsSpellable v) (line_of v line)
unfolding line_of
line_known v line = word_then (IsSpellable v) (words_of line) _ (λ word. form_known v word.0 word.1)

pub read_is_known : (v : ℕ) (line : List ℕ) (result : Result Line LineError) → Gives (λ l. l) result (line_of v line) → IfOk result (λ l. IsSpellable v l)
read_is_known v line (Ok l) gives = (rw gives at (line_known v line)).holds
read_is_known v line (Err e) gives = tt
