-- Lists, read one item after another.
use Rattle.std.proofs.Common.{◌≡◌, ℕ, ◌<◌, List, [], ◌∷◌, ◌++◌, length, Option, Some, None, Result, Ok, Err, true, false, refl, sym, ap, ◌∙◌, append_assoc, append-nil, arith}
use Rattle.xp_words.specs.declared.ops.Pair.{Pair}
use Rattle.trace_lines.specs.declared.fault.LineFault.{LineFault}
use Rattle.trace_lines.specs.declared.fault.LineError.{LineError}
use Rattle.trace_lines.specs.declared.fault.LineError.TheVariants as errors
use Rattle.trace_lines.specs.Steps.{◌>>=◌, with_front, Fails}
use Rattle.trace_lines.specs.Numbers.{number_of}
use Rattle.trace_lines.specs.Words.{next_word, next_number, ok_or_line, is_nil, each}
use Rattle.trace_lines.specs.Grammar.{numbers_of, pairs_from, spelled_pairs, next_pair}

pub regroup : {B : Type 0} (front : List B) (y : B) (r : Result (List B) LineFault) → with_front front (with_front (y ∷ []) r) ≡ with_front (front ++ y ∷ []) r
regroup front y (Ok ys) = ap Ok (sym (append_assoc front (y ∷ []) ys))
regroup front y (Err s) = refl

-- what the words behind an item give, with that item in front
abbrev first_of : {B : Type 0} → (List (List ℕ) → Result (List B) LineFault) → B × List (List ℕ) → Result (List B) LineFault
first_of all first = with_front (first.0 ∷ []) (all first.1)

module _ {B : Type 0} (all : List (List ℕ) → Result (List B) LineFault) (ws : List (List ℕ)) (next : Result (B × List (List ℕ)) LineFault) (more : all ws ≡ (next >>= first_of all)) where
  pub taken : (rest : List (List ℕ)) (x : B) → next ≡ Ok (x, rest) → all ws ≡ with_front (x ∷ []) (all rest)
  taken rest x e = more ∙ ap (λ (r : Result (B × List (List ℕ)) LineFault). r >>= first_of all) e

  pub goes_on : (front : List B) (rest : List (List ℕ)) (x : B) → next ≡ Ok (x, rest) → with_front (front ++ x ∷ []) (all rest) ≡ with_front front (all ws)
  goes_on front rest x e = sym (ap (with_front front) (taken rest x e) ∙ regroup front x (all rest))

  pub fails : (e : LineError) → Fails e next → Fails e (all ws)
  fails errors.Memory h = tt
  fails (errors.At s) h = more ∙ ap (λ (r : Result (B × List (List ℕ)) LineFault). r >>= first_of all) h

pub fails_behind : {B : Type 0} (front : List B) (r : Result (List B) LineFault) (e : LineError) → Fails e r → Fails e (with_front front r)
fails_behind front r errors.Memory h = tt
fails_behind front r (errors.At s) h = ap (with_front front) h

pub nothing_behind : {B : Type 0} (front : List B) (r : Result (List B) LineFault) → r ≡ Ok [] → with_front front r ≡ Ok front
nothing_behind front r e = ap (with_front front) e ∙ ap Ok (append-nil front)

abbrev with_rest : List (List ℕ) → ℕ → Result (ℕ × List (List ℕ)) LineFault
with_rest ws m = Ok (m, ws)

by_number : (o : Option ℕ) (ws : List (List ℕ)) → (ok_or_line o >>= λ n. numbers_of ws >>= λ others. Ok (n ∷ others)) ≡ ((ok_or_line o >>= with_rest ws) >>= first_of numbers_of)
by_number None ws = refl
by_number (Some n) ws = refl

-- one number more, by what next_number says
pub one_number : (ws : List (List ℕ)) → is_nil ws ≡ false → numbers_of ws ≡ (next_number ws >>= first_of numbers_of)
unfolding each next_number next_word
one_number [] e = absurd cc
one_number (w ∷ ws) e = by_number (number_of w) ws

pub no_number : (ws : List (List ℕ)) → is_nil ws ≡ true → numbers_of ws ≡ Ok []
unfolding each
no_number [] e = refl
no_number (w ∷ ws) e = absurd cc

abbrev pair_with : ℕ → ℕ × List (List ℕ) → Result (Pair × List (List ℕ)) LineFault
pair_with ptr val = Ok (record { ptr = ptr; val = val.0 }, val.1)

after_two : (n m : ℕ) (numbers : Result (List ℕ) LineFault) → (((numbers >>= λ ns. Ok (m ∷ ns)) >>= λ ns. Ok (n ∷ ns)) >>= pairs_from) ≡ with_front (record { ptr = n; val = m } ∷ []) (numbers >>= pairs_from)
unfolding pairs_from
after_two n m (Ok ns) = refl
after_two n m (Err s) = refl

by_second : (n : ℕ) (o : Option ℕ) (ws : List (List ℕ)) → (((ok_or_line o >>= λ m. numbers_of ws >>= λ ns. Ok (m ∷ ns)) >>= λ ns. Ok (n ∷ ns)) >>= pairs_from) ≡ (((ok_or_line o >>= with_rest ws) >>= pair_with n) >>= first_of spelled_pairs)
by_second n None ws = refl
by_second n (Some m) ws = after_two n m (numbers_of ws)

by_pair : (o : Option ℕ) (ws : List (List ℕ)) → ((ok_or_line o >>= λ n. numbers_of ws >>= λ ns. Ok (n ∷ ns)) >>= pairs_from) ≡ (((ok_or_line o >>= with_rest ws) >>= λ ptr. next_number ptr.1 >>= pair_with ptr.0) >>= first_of spelled_pairs)
unfolding each next_number next_word pairs_from
by_pair None ws = refl
by_pair (Some n) [] = refl
by_pair (Some n) (v ∷ ws) = by_second n (number_of v) ws

-- one pair more, by what next_pair says
pub one_pair : (ws : List (List ℕ)) → is_nil ws ≡ false → spelled_pairs ws ≡ (next_pair ws >>= first_of spelled_pairs)
unfolding each next_number next_word next_pair
one_pair [] e = absurd cc
one_pair (w ∷ ws) e = by_pair (number_of w) ws

pub no_pair : (ws : List (List ℕ)) → is_nil ws ≡ true → spelled_pairs ws ≡ Ok []
unfolding each pairs_from
no_pair [] e = refl
no_pair (w ∷ ws) e = absurd cc

abbrev rest_of : {B : Type 0} → Result (B × List (List ℕ)) LineFault → List (List ℕ)
rest_of (Ok x) = x.1
rest_of (Err e) = []

took : (o : Option ℕ) (ws rest : List (List ℕ)) (n : ℕ) → (ok_or_line o >>= with_rest ws) ≡ Ok (n, rest) → ws ≡ rest
took None ws rest n e = absurd cc
took (Some m) ws rest n e = ap rest_of e

pub shorter : (ws rest : List (List ℕ)) (n : ℕ) → next_number ws ≡ Ok (n, rest) → length rest < length ws
unfolding next_number next_word
shorter [] rest n e = absurd cc
shorter (w ∷ ws) rest n e = omega (arith, ap length (took (number_of w) ws rest n e))

by_val : (ptr : ℕ) (ws rest : List (List ℕ)) (p : Pair) (val : Result (ℕ × List (List ℕ)) LineFault) → next_number ws ≡ val → (val >>= pair_with ptr) ≡ Ok (p, rest) → length rest < length ws
by_val ptr ws rest p (Err s) e h = absurd cc
by_val ptr ws rest p (Ok (n, behind)) e h = omega (arith, shorter ws behind n e, ap length (ap rest_of h))

by_ptr : (ws rest : List (List ℕ)) (p : Pair) (ptr : Result (ℕ × List (List ℕ)) LineFault) → next_number ws ≡ ptr → (ptr >>= λ x. next_number x.1 >>= pair_with x.0) ≡ Ok (p, rest) → length rest < length ws
by_ptr ws rest p (Err s) e h = absurd cc
by_ptr ws rest p (Ok (n, behind)) e h = omega (arith, shorter ws behind n e, by_val n behind rest p (next_number behind) refl h)

pub shorter_pair : (ws rest : List (List ℕ)) (p : Pair) → next_pair ws ≡ Ok (p, rest) → length rest < length ws
unfolding next_pair
shorter_pair ws rest p e = by_ptr ws rest p (next_number ws) refl e
