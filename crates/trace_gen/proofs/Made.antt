-- What holds of each number of a range holds of the list that is made from it.
use Rattle.std.proofs.Common.{◌≡◌, ℕ, zero, suc, ◌+◌, ◌<◌, ◌≤◌, [], ◌∷◌, ◌++◌, map, subst, sym, refl, zero-add, arith}
use Rattle.std.specs.List.{All, range_with_len, sum_by}
use Rattle.std.proofs.lemmas.List.FromFn.{length-map-range_with_len, get_or-map-range_with_len, map-range_with_len_more}
use Rattle.std.proofs.lemmas.List.Sums.{sum_by-cons}
use Rattle.trace_gen.specs.Generated.{generated_op, generated_script}

pub script_more : (n : ℕ) → generated_script (n + 1) ≡ generated_script n ++ generated_op n ∷ []
script_more n = map-range_with_len_more generated_op 0 n n (zero-add n)

pub all_made : {X : Type 0} (P : X → Type 0) (f : ℕ → X) (n : ℕ) → ((k : ℕ) → k < n → P (f k)) → All P (map f (range_with_len 0 n))
all_made P f n each k d within =
    let Below : ℕ → Type 0 = λ m. k < m in
    let below : k < n = subst Below (length-map-range_with_len f 0 n) within in
    subst P (sym (get_or-map-range_with_len f 0 n k k d below (zero-add k))) (each k below)

-- at most one for each number
pub few_made : {X : Type 0} (g : X → ℕ) (f : ℕ → X) (a n : ℕ) → ((k : ℕ) → g (f k) ≤ 1) → sum_by g (map f (range_with_len a n)) ≤ n
few_made g f a zero each = omega arith
few_made g f a (suc n) each =
    let here = each a in
    let others = few_made g f (a + 1) n each in
    rw sum_by-cons (omega arith)

-- nothing for any number
pub none_made : {X : Type 0} (g : X → ℕ) (f : ℕ → X) (a n : ℕ) → ((k : ℕ) → g (f k) ≡ 0) → sum_by g (map f (range_with_len a n)) ≡ 0
none_made g f a zero each = refl
none_made g f a (suc n) each =
    let here = each a in
    let others = none_made g f (a + 1) n each in
    rw sum_by-cons (omega arith)
