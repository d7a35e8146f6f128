-- The words of a call are read as that call.
use Rattle.std.proofs.Common.{◌≡◌, ℕ, ◌<◌, ◌^◌, List, [], ◌∷◌, Ok, refl}
use Rattle.std.specs.Prelude.{decimal}
use Rattle.std.specs.List.{flat_map, All}
use Rattle.std.proofs.lemmas.List.Elements.{All-head, All-tail}
use Rattle.xp_words.specs.declared.ops.Pair.{Pair}
use Rattle.xp_words.specs.declared.ops.ExtOp.{ExtOp}
use Rattle.xp_words.specs.declared.ops.Call.{Call}
use Rattle.xp_words.specs.declared.ops.Call.TheVariants as calls
use Rattle.trace_lines.specs.Words.{next_word, next_number, end_at, each}
use Rattle.trace_lines.specs.Grammar.{numbers_of, pairs_from, triples_from, mmu_of, ext_of, va_of, va_other_of, gdt_of, desc_of, mem_of, hypercall_of, call_by, call_of}
use Rattle.trace_lines.specs.Spelling.{number_words, pair_words, triple_words, call_words, IsSpellablePair, IsSpellableExt, IsSpellableCall, AreWords}
use Rattle.trace_lines.proofs.Decimals.{number_back}

-- a number in front of other words
pub number_first : (n : ℕ) (ws : List (List ℕ)) → n < 2 ^ 64 → next_number (decimal n ∷ ws) ≡ Ok (n, ws)
unfolding next_number next_word
number_first n ws small = rw (number_back n small) refl

pub numbers_again : (ns : List ℕ) → AreWords ns → numbers_of (number_words ns) ≡ Ok ns
unfolding each
numbers_again [] h = refl
numbers_again (n ∷ ns) h = rw (number_back n (All-head (λ m. m < 2 ^ 64) n ns h), numbers_again ns (All-tail (λ m. m < 2 ^ 64) n ns h)) refl

pair_numbers : List Pair → List ℕ
pair_numbers ps = flat_map (λ p. p.ptr ∷ p.val ∷ []) ps

pair_words_again : (ps : List Pair) → All IsSpellablePair ps → numbers_of (pair_words ps) ≡ Ok (pair_numbers ps)
unfolding each pair_numbers
pair_words_again [] h = refl
pair_words_again (p ∷ ps) h =
    let own = All-head IsSpellablePair p ps h in
    rw (number_back p.ptr own.0, number_back p.val own.1, pair_words_again ps (All-tail IsSpellablePair p ps h)) refl

pair_numbers_again : (ps : List Pair) → pairs_from (pair_numbers ps) ≡ Ok ps
unfolding pairs_from pair_numbers
pair_numbers_again [] = refl
pair_numbers_again (p ∷ ps) = rw (pair_numbers_again ps) refl

triple_numbers : List ExtOp → List ℕ
triple_numbers xs = flat_map (λ x. x.command ∷ x.first ∷ x.second ∷ []) xs

triple_words_again : (xs : List ExtOp) → All IsSpellableExt xs → numbers_of (triple_words xs) ≡ Ok (triple_numbers xs)
unfolding each triple_numbers
triple_words_again [] h = refl
triple_words_again (x ∷ xs) h =
    let own = All-head IsSpellableExt x xs h in
    rw (number_back x.command own.0, number_back x.first own.1, number_back x.second own.2, triple_words_again xs (All-tail IsSpellableExt x xs h)) refl

triple_numbers_again : (xs : List ExtOp) → triples_from (triple_numbers xs) ≡ Ok xs
unfolding triples_from triple_numbers
triple_numbers_again [] = refl
triple_numbers_again (x ∷ xs) = rw (triple_numbers_again xs) refl

pub call_again : (c : Call) → IsSpellableCall c → call_of (call_words c) ≡ Ok c
unfolding call_of next_word hypercall_of call_by mmu_of ext_of va_of va_other_of gdt_of desc_of mem_of end_at
call_again (calls.Mmu foreign pairs) h = rw (number_first foreign (pair_words pairs) h.0, pair_words_again pairs h.1, pair_numbers_again pairs) refl
call_again (calls.Ext list) h = rw (triple_words_again list h, triple_numbers_again list) refl
call_again (calls.Va va val flags) h = rw (number_first va _ h.0, number_first val _ h.1, number_first flags _ h.2) refl
call_again (calls.VaOther va val flags domain) h = rw (number_first va _ h.0, number_first val _ h.1, number_first flags _ h.2, number_first domain _ h.3) refl
call_again (calls.Gdt entries frames) h = rw (number_first entries _ h.0, numbers_again frames h.1) refl
call_again (calls.Desc address word) h = rw (number_first address _ h.0, number_first word _ h.1) refl
call_again (calls.Mem command order items) h = rw (number_first command _ h.0, number_first order _ h.1, numbers_again items h.2) refl
