-- Words copied one by one.
use Rattle.std.proofs.Common.{◌≡◌, ℕ, zero, suc, ◌+◌, ◌<◌, List, [], ◌∷◌, ◌++◌, length, take, drop, set, refl, sym, ap, arith, add-one, slice_index}
use mathlib.Core.Option.{some, some-injective, some-ne-none}
use lib.ListN.{get_elem?}

take_suc : (xs : List ℕ) (i : ℕ) → i < length xs → take (suc i) xs ≡ take i xs ++ slice_index xs i ∷ []
take_suc [] i lt = absurd (omega arith)
take_suc (y ∷ ys) zero lt = refl
take_suc (y ∷ ys) (suc i) lt = ap (λ zs. y ∷ zs) (take_suc ys i (omega arith))

-- into a row that grows
pub copied : (xs before now : List ℕ) (i x : ℕ) → i < length xs → x ≡ slice_index xs i → before ≡ take i xs → now ≡ before ++ x ∷ [] → now ≡ take (i + 1) xs
copied xs before now i x lt at was is = rw (is, was, at, add-one) (sym (take_suc xs i lt))

-- over other words
over : (xs ys : List ℕ) (i x : ℕ) → i < length ys → length xs ≡ length ys → get_elem? xs i ≡ some x → set (take i xs ++ drop i ys) i x ≡ take (suc i) xs ++ drop (suc i) ys
over [] ys i x lt same at = absurd (some-ne-none x (sym at))
over (a ∷ xs) [] i x lt same at = absurd (omega arith)
over (a ∷ xs) (b ∷ ys) zero x lt same at = ap (λ z. z ∷ ys) (sym (some-injective a x at))
over (a ∷ xs) (b ∷ ys) (suc i) x lt same at = ap (λ zs. a ∷ zs) (over xs ys i x (omega arith) (omega arith) at)

pub copied_over : (xs ys before now : List ℕ) (i x : ℕ) → i < length ys → length xs ≡ length ys → get_elem? xs i ≡ some x → before ≡ take i xs ++ drop i ys → now ≡ set before i x → now ≡ take (i + 1) xs ++ drop (i + 1) ys
copied_over xs ys before now i x lt same at was is = rw (is, was, add-one) (over xs ys i x lt same at)
