-- The text of a line is read as that line.
use Rattle.std.proofs.Common.{◌≡◌, ◌≢◌, ℕ, List, [], ◌∷◌, Result, Ok, Bool, true, false, ◌⊎◌, inl, inr, refl, sym, ap, ◌∙◌, arith}
use Rattle.std.specs.Prelude.{decimal, codes, slice_index}
use Rattle.std.specs.List.{list_all, All}
use Rattle.std.proofs.lemmas.Fmt.{decimal_digit}
use Rattle.xp_words.specs.declared.ops.Call.{Call}
use Rattle.xp_words.specs.declared.ops.Call.TheVariants as calls
use Rattle.xp_words.specs.declared.ops.Op.{Op}
use Rattle.xp_words.specs.declared.ops.Op.TheVariants as ops
use Rattle.trace_lines.specs.declared.fault.LineFault.{LineFault}
use Rattle.trace_lines.specs.declared.line.Line.{Line}
use Rattle.trace_lines.specs.declared.line.Line.TheVariants as lines
use Rattle.trace_lines.specs.Steps.{◌>>=◌}
use Rattle.trace_lines.specs.Words.{words_of, next_word, end_at, is_nil}
use Rattle.trace_lines.specs.Grammar.{hypercall_of, call_of, multi_of, next_base, read_of, write_of, touch_ldt_of, destroy_of, grant_of, revoke_of, ptwr_of, xchg_of, newer_by, other_by, operation_by, operation_of}
use Rattle.trace_lines.specs.Grammar.{header_line_of, frames_line_of, limit_line_of, clock_line_of, domain_line_of, priv_line_of, vcpu_line_of, own_line_of, cell_line_of, op_line_of, turn_line_of, end_line_of, opening_by, line_by, line_of}
use Rattle.trace_lines.specs.Spelling.{words_text, base_word, call_words, op_words, line_words, line_text, IsSpellableCall, IsSpellableOp, IsSpellable}
use Rattle.trace_lines.proofs.Decimals.{is_word, decimal_is_word}
use Rattle.trace_lines.proofs.WordsAgain.{words_again, no_feed}
use Rattle.trace_lines.proofs.CallsAgain.{number_first, numbers_again, call_again}
use Rattle.trace_lines.proofs.MultiAgain.{words_of_call, words_of_numbers, words_of_calls, calls_again}
use Rattle.trace_lines.proofs.DigitTable.{both_of as both}

-- ---- operations

one_again : (v : ℕ) (c : Call) → IsSpellableCall c → operation_of v (call_words c) ≡ (call_of (call_words c) >>= λ call. Ok (ops.One call))
unfolding operation_of operation_by next_word hypercall_of call_of
one_again v (calls.Mmu foreign pairs) h = refl
one_again v (calls.Ext list) h = refl
one_again v (calls.Va va val flags) h = refl
one_again v (calls.VaOther va val flags domain) h = refl
one_again v (calls.Gdt entries frames) h = refl
one_again v (calls.Desc address word) h = refl
one_again v (calls.Mem command order items) h = refl

base_again : (user : Bool) (ws : List (List ℕ)) → next_base (base_word user ∷ ws) ≡ Ok (user, ws)
unfolding next_base next_word
base_again true ws = refl
base_again false ws = refl

operation_again : (v : ℕ) (op : Op) → IsSpellableOp v op → operation_of v (op_words op) ≡ Ok op
unfolding operation_of operation_by other_by newer_by next_word hypercall_of multi_of read_of write_of touch_ldt_of destroy_of grant_of revoke_of ptwr_of xchg_of end_at
operation_again v (ops.One call) h = one_again v call h ∙ rw (call_again call h) refl
operation_again v (ops.Multi list) h = rw (calls_again list h.0 h.1) refl
operation_again v (ops.Read user va) h = rw (base_again user (decimal va ∷ []), number_first va [] h) refl
operation_again v (ops.Write user va val) h = rw (base_again user (decimal va ∷ decimal val ∷ []), number_first va (decimal val ∷ []) h.0, number_first val [] h.1) refl
operation_again v (ops.TouchLdt page) h = rw (number_first page [] h) refl
operation_again v (ops.Destroy domain) h = rw (number_first domain [] h) refl
operation_again v (ops.Grant to over) h = rw (h.0, number_first to (decimal over ∷ []) h.1, number_first over [] h.2) refl
operation_again v (ops.Revoke to over) h = rw (h.0, number_first to (decimal over ∷ []) h.1, number_first over [] h.2) refl
operation_again v (ops.Ptwr user va val) h = rw (h.0, base_again user (decimal va ∷ decimal val ∷ []), number_first va (decimal val ∷ []) h.1, number_first val [] h.2) refl
operation_again v (ops.Xchg first before after items) h = rw (h.0, number_first first _ h.1, number_first before _ h.2, number_first after _ h.3, numbers_again items h.4) refl

base_is_word : (user : Bool) → is_word (base_word user) ≡ true
base_is_word true = refl
base_is_word false = refl

words_of_op : (v : ℕ) (op : Op) → IsSpellableOp v op → list_all is_word (op_words op) ≡ true
words_of_op v (ops.One call) h = words_of_call call h
words_of_op v (ops.Multi list) h = words_of_calls list h.1
words_of_op v (ops.Read user va) h = rw (base_is_word user, decimal_is_word va h) refl
words_of_op v (ops.Write user va val) h = rw (base_is_word user, decimal_is_word va h.0, decimal_is_word val h.1) refl
words_of_op v (ops.TouchLdt page) h = rw (decimal_is_word page h) refl
words_of_op v (ops.Destroy domain) h = rw (decimal_is_word domain h) refl
words_of_op v (ops.Grant to over) h = rw (decimal_is_word to h.1, decimal_is_word over h.2) refl
words_of_op v (ops.Revoke to over) h = rw (decimal_is_word to h.1, decimal_is_word over h.2) refl
words_of_op v (ops.Ptwr user va val) h = rw (base_is_word user, decimal_is_word va h.1, decimal_is_word val h.2) refl
words_of_op v (ops.Xchg first before after items) h = rw (decimal_is_word first h.1, decimal_is_word before h.2, decimal_is_word after h.3, words_of_numbers items h.4) refl

-- ---- lines

one_is : (n : ℕ) → n ≡ 1 → decimal n ≡ codes "1"
one_is n e = ap decimal e ∙ decimal_digit 1 (omega arith)

two_is : (n : ℕ) → n ≡ 2 → decimal n ≡ codes "2"
two_is n e = ap decimal e ∙ decimal_digit 2 (omega arith)

header_again : (n : ℕ) → (n ≡ 1) ⊎ (n ≡ 2) → header_line_of (decimal n ∷ []) ≡ Ok (lines.Header n)
unfolding header_line_of next_word end_at
header_again n (inl e) = rw (one_is n e) (ap (λ (k : ℕ). Ok (lines.Header k)) (sym e))
header_again n (inr e) = rw (two_is n e) (ap (λ (k : ℕ). Ok (lines.Header k)) (sym e))

header_is_word : (n : ℕ) → (n ≡ 1) ⊎ (n ≡ 2) → is_word (decimal n) ≡ true
header_is_word n (inl e) = decimal_is_word n (omega (arith, e))
header_is_word n (inr e) = decimal_is_word n (omega (arith, e))

abbrev line_from : ℕ → List (List ℕ) → Result Line LineFault
line_from v ws = next_word ws >>= λ word. line_by v word.0 word.1

form_again : (v : ℕ) (l : Line) → IsSpellable v l → line_from v (line_words l) ≡ Ok l
unfolding next_word line_by opening_by frames_line_of limit_line_of clock_line_of domain_line_of priv_line_of vcpu_line_of own_line_of cell_line_of op_line_of turn_line_of end_line_of end_at
form_again v (lines.Header own) h = header_again own h
form_again v (lines.Frames count) h = rw (number_first count [] h) refl
form_again v (lines.Limit count) h = rw (number_first count [] h) refl
form_again v (lines.Clock start) h = rw (number_first start [] h) refl
form_again v (lines.Domain limit) h = rw (number_first limit [] h) refl
form_again v (lines.Priv domain over) h = rw (number_first domain _ h.0, number_first over [] h.1) refl
form_again v (lines.Vcpu domain) h = rw (number_first domain [] h) refl
form_again v (lines.Own domain first count) h = rw (number_first domain _ h.0, number_first first _ h.1, number_first count [] h.2) refl
form_again v (lines.Cell frame first count value) h = rw (number_first frame _ h.0, number_first first _ h.1, number_first count _ h.2, number_first value [] h.3) refl
form_again v (lines.Op vcpu op) h = rw (number_first vcpu _ h.0, operation_again v op h.1) refl
form_again v (lines.Turn vcpu count) h = rw (number_first vcpu _ h.0, number_first count [] h.1) refl
form_again v lines.End h = refl

words_of_line : (v : ℕ) (l : Line) → IsSpellable v l → list_all is_word (line_words l) ≡ true
words_of_line v (lines.Header own) h = rw (header_is_word own h) refl
words_of_line v (lines.Frames count) h = rw (decimal_is_word count h) refl
words_of_line v (lines.Limit count) h = rw (decimal_is_word count h) refl
words_of_line v (lines.Clock start) h = rw (decimal_is_word start h) refl
words_of_line v (lines.Domain limit) h = rw (decimal_is_word limit h) refl
words_of_line v (lines.Priv domain over) h = rw (decimal_is_word domain h.0, decimal_is_word over h.1) refl
words_of_line v (lines.Vcpu domain) h = rw (decimal_is_word domain h) refl
words_of_line v (lines.Own domain first count) h = rw (decimal_is_word domain h.0, decimal_is_word first h.1, decimal_is_word count h.2) refl
words_of_line v (lines.Cell frame first count value) h = rw (decimal_is_word frame h.0, decimal_is_word first h.1, decimal_is_word count h.2, decimal_is_word value h.3) refl
words_of_line v (lines.Op vcpu op) h = rw (decimal_is_word vcpu h.0, words_of_op v op h.1) refl
words_of_line v (lines.Turn vcpu count) h = rw (decimal_is_word vcpu h.0, decimal_is_word count h.1) refl
words_of_line v lines.End h = refl

some_words : (l : Line) → is_nil (line_words l) ≡ false
some_words (lines.Header own) = refl
some_words (lines.Frames count) = refl
some_words (lines.Limit count) = refl
some_words (lines.Clock start) = refl
some_words (lines.Domain limit) = refl
some_words (lines.Priv domain over) = refl
some_words (lines.Vcpu domain) = refl
some_words (lines.Own domain first count) = refl
some_words (lines.Cell frame first count value) = refl
some_words (lines.Op vcpu op) = refl
some_words (lines.Turn vcpu count) = refl
some_words lines.End = refl

text_words : (ws : List (List ℕ)) → is_nil ws ≡ false → list_all is_word ws ≡ true → words_of (words_text ws) ≡ ws
text_words [] some h = absurd cc
text_words (w ∷ ws) some h = let parts = both (is_word w) (list_all is_word ws) h in words_again w ws parts.0 parts.1

text_has_no_feed : (ws : List (List ℕ)) → is_nil ws ≡ false → list_all is_word ws ≡ true → All (λ b. b ≢ 10) (words_text ws)
text_has_no_feed [] some h = absurd cc
text_has_no_feed (w ∷ ws) some h = let parts = both (is_word w) (list_all is_word ws) h in no_feed w ws parts.0 parts.1

-- a line's text is read as the line
pub again : (v : ℕ) (l : Line) → IsSpellable v l → line_of v (line_text l) ≡ Ok l
unfolding line_of line_text
again v l h = ap (line_from v) (text_words (line_words l) (some_words l) (words_of_line v l h)) ∙ form_again v l h

-- a line's text is one line
pub feedless : (v : ℕ) (l : Line) → IsSpellable v l → All (λ b. b ≢ 10) (line_text l)
unfolding line_text
feedless v l h = text_has_no_feed (line_words l) (some_words l) (words_of_line v l h)

-- a line's text is no comment
pub uncommented : (l : Line) → slice_index (line_text l) 0 ≢ 35
unfolding line_text
uncommented (lines.Header own) e = omega (arith, e)
uncommented (lines.Frames count) e = omega (arith, e)
uncommented (lines.Limit count) e = omega (arith, e)
uncommented (lines.Clock start) e = omega (arith, e)
uncommented (lines.Domain limit) e = omega (arith, e)
uncommented (lines.Priv domain over) e = omega (arith, e)
uncommented (lines.Vcpu domain) e = omega (arith, e)
uncommented (lines.Own domain first count) e = omega (arith, e)
uncommented (lines.Cell frame first count value) e = omega (arith, e)
uncommented (lines.Op vcpu op) e = omega (arith, e)
uncommented (lines.Turn vcpu count) e = omega (arith, e)
uncommented lines.End e = omega (arith, e)
