-- The words of calls, with `;` between two of them, are read as those calls.
use Rattle.std.proofs.Common.{◌≡◌, ℕ, ◌<◌, ◌^◌, List, [], ◌∷◌, ◌++◌, map, length, Ok, Bool, true, false, refl, ap, ◌∙◌, arith, append-nil, get_or}
use Rattle.std.specs.Prelude.{decimal, codes, ◌&&◌, not}
use Rattle.std.specs.List.{list_all, flat_map, slice_split, All}
use Rattle.std.proofs.lemmas.List.Elements.{All-head, All-tail}
use Rattle.std.proofs.lemmas.List.Folds.{list_all-append}
use Rattle.std.proofs.lemmas.List.Splits.{slice_split_none, slice_split_at}
use Rattle.std.proofs.lemmas.List.Sums.{AllPass-from_list_all}
use Rattle.std.proofs.lemmas.Bool.{not-true}
use Rattle.xp_words.specs.declared.ops.Pair.{Pair}
use Rattle.xp_words.specs.declared.ops.ExtOp.{ExtOp}
use Rattle.xp_words.specs.declared.ops.Call.{Call}
use Rattle.xp_words.specs.declared.ops.Call.TheVariants as calls
use Rattle.trace_lines.specs.Words.{is_separator, each}
use Rattle.trace_lines.specs.Grammar.{call_of, calls_of}
use Rattle.trace_lines.specs.Spelling.{number_words, pair_words, triple_words, call_words, calls_words, IsSpellablePair, IsSpellableExt, IsSpellableCall, AreWords}
use Rattle.trace_lines.proofs.Decimals.{is_word, decimal_is_word, decimal_no_separator}
use Rattle.trace_lines.proofs.CallsAgain.{call_again}
use Rattle.trace_lines.proofs.DigitTable.{both_of as both}

-- a word of a call: it separates no calls
abbrev pub is_call_word : List ℕ → Bool
is_call_word w = is_word w && not (is_separator w)

pub decimal_call_word : (n : ℕ) → n < 2 ^ 64 → is_call_word (decimal n) ≡ true
decimal_call_word n small = rw (decimal_is_word n small, decimal_no_separator n small) refl

number_call_words : (ns : List ℕ) → AreWords ns → list_all is_call_word (number_words ns) ≡ true
number_call_words [] h = refl
number_call_words (n ∷ ns) h = rw (decimal_call_word n (All-head (λ m. m < 2 ^ 64) n ns h), number_call_words ns (All-tail (λ m. m < 2 ^ 64) n ns h)) refl

pair_call_words : (ps : List Pair) → All IsSpellablePair ps → list_all is_call_word (pair_words ps) ≡ true
pair_call_words [] h = refl
pair_call_words (p ∷ ps) h =
    let own = All-head IsSpellablePair p ps h in
    rw (decimal_call_word p.ptr own.0, decimal_call_word p.val own.1, pair_call_words ps (All-tail IsSpellablePair p ps h)) refl

triple_call_words : (xs : List ExtOp) → All IsSpellableExt xs → list_all is_call_word (triple_words xs) ≡ true
triple_call_words [] h = refl
triple_call_words (x ∷ xs) h =
    let own = All-head IsSpellableExt x xs h in
    rw (decimal_call_word x.command own.0, decimal_call_word x.first own.1, decimal_call_word x.second own.2, triple_call_words xs (All-tail IsSpellableExt x xs h)) refl

all_call_words : (c : Call) → IsSpellableCall c → list_all is_call_word (call_words c) ≡ true
all_call_words (calls.Mmu foreign pairs) h = rw (decimal_call_word foreign h.0, pair_call_words pairs h.1) refl
all_call_words (calls.Ext list) h = triple_call_words list h
all_call_words (calls.Va va val flags) h = rw (decimal_call_word va h.0, decimal_call_word val h.1, decimal_call_word flags h.2) refl
all_call_words (calls.VaOther va val flags domain) h = rw (decimal_call_word va h.0, decimal_call_word val h.1, decimal_call_word flags h.2, decimal_call_word domain h.3) refl
all_call_words (calls.Gdt entries frames) h = rw (decimal_call_word entries h.0, number_call_words frames h.1) refl
all_call_words (calls.Desc address word) h = rw (decimal_call_word address h.0, decimal_call_word word h.1) refl
all_call_words (calls.Mem command order items) h = rw (decimal_call_word command h.0, decimal_call_word order h.1, number_call_words items h.2) refl

words_only : (ws : List (List ℕ)) → list_all is_call_word ws ≡ true → list_all is_word ws ≡ true
words_only [] h = refl
words_only (w ∷ ws) h =
    let parts = both (is_call_word w) (list_all is_call_word ws) h in
    let own = both (is_word w) (not (is_separator w)) parts.0 in
    rw (own.0, words_only ws parts.1) refl

pub words_of_call : (c : Call) → IsSpellableCall c → list_all is_word (call_words c) ≡ true
words_of_call c h = words_only (call_words c) (all_call_words c h)

pub words_of_numbers : (ns : List ℕ) → AreWords ns → list_all is_word (number_words ns) ≡ true
words_of_numbers ns h = words_only (number_words ns) (number_call_words ns h)

no_separator : (c : Call) → IsSpellableCall c → All (λ w. is_separator w ≡ false) (call_words c)
no_separator c h = λ k d lt. not-true _ (both (is_word (get_or (call_words c) k d)) (not (is_separator (get_or (call_words c) k d))) (AllPass-from_list_all is_call_word (call_words c) (all_call_words c h) k d lt)).1

abbrev words_behind : List Call → List (List ℕ)
words_behind cs = flat_map (λ d. codes ";" ∷ call_words d) cs

words_of_others : (cs : List Call) → All IsSpellableCall cs → list_all is_word (words_behind cs) ≡ true
words_of_others [] h = refl
words_of_others (c ∷ cs) h =
    list_all-append is_word (call_words c) (words_behind cs) ∙ rw (words_of_call c (All-head IsSpellableCall c cs h), words_of_others cs (All-tail IsSpellableCall c cs h)) refl

pub words_of_calls : (cs : List Call) → All IsSpellableCall cs → list_all is_word (calls_words cs) ≡ true
words_of_calls [] h = refl
words_of_calls (c ∷ cs) h =
    list_all-append is_word (call_words c) (words_behind cs) ∙ rw (words_of_call c (All-head IsSpellableCall c cs h), words_of_others cs (All-tail IsSpellableCall c cs h)) refl

parts_again : (c : Call) (cs : List Call) → IsSpellableCall c → All IsSpellableCall cs → slice_split is_separator (call_words c ++ words_behind cs) ≡ map call_words (c ∷ cs)
parts_again c [] h hs = ap (slice_split is_separator) (append-nil (call_words c)) ∙ slice_split_none is_separator (call_words c) (no_separator c h)
parts_again c (d ∷ cs) h hs =
    slice_split_at is_separator (call_words c) (codes ";") (call_words d ++ words_behind cs) (no_separator c h) refl
    ∙ ap (λ (ps : List (List (List ℕ))). call_words c ∷ ps) (parts_again d cs (All-head IsSpellableCall d cs hs) (All-tail IsSpellableCall d cs hs))

each_again : (cs : List Call) → All IsSpellableCall cs → each call_of (map call_words cs) ≡ Ok cs
unfolding each
each_again [] h = refl
each_again (c ∷ cs) h = rw (call_again c (All-head IsSpellableCall c cs h), each_again cs (All-tail IsSpellableCall c cs h)) refl

pub calls_again : (cs : List Call) → 0 < length cs → All IsSpellableCall cs → calls_of (calls_words cs) ≡ Ok cs
calls_again [] some h = absurd (omega (arith, some))
calls_again (c ∷ cs) some h = ap (each call_of) (parts_again c cs (All-head IsSpellableCall c cs h) (All-tail IsSpellableCall c cs h)) ∙ each_again (c ∷ cs) h
