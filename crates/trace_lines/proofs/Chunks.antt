-- Numbers that are cut into triples.
use Rattle.std.proofs.Common.{◌≡◌, ℕ, zero, suc, ◌+◌, ◌*◌, ◌<◌, ◌/◌, ◌%◌, List, [], ◌∷◌, length, map, Ok, Err, refl, arith}
use Rattle.std.specs.Simd.{first_chunks}
use Rattle.trace_lines.specs.Steps.{bad_line}
use Rattle.trace_lines.specs.Grammar.{triple_from, triples_from}

triples_even_by : (ns : List ℕ) (k : ℕ) → length ns ≡ 3 * k → triples_from ns ≡ Ok (map triple_from (first_chunks 3 k ns))
unfolding triples_from
triples_even_by [] zero e = refl
triples_even_by [] (suc k) e = absurd (omega (arith, e))
triples_even_by (a ∷ []) k e = absurd (omega (arith, e))
triples_even_by (a ∷ b ∷ []) k e = absurd (omega (arith, e))
triples_even_by (a ∷ b ∷ c ∷ ns) zero e = absurd (omega (arith, e))
triples_even_by (a ∷ b ∷ c ∷ ns) (suc k) e = rw (triples_even_by ns k (omega (arith, e))) refl

triples_odd_by : (ns : List ℕ) (k r : ℕ) → length ns ≡ 3 * k + r → 0 < r → r < 3 → triples_from ns ≡ Err bad_line
unfolding triples_from
triples_odd_by [] k r e pos small = absurd (omega (arith, e))
triples_odd_by (a ∷ []) k r e pos small = refl
triples_odd_by (a ∷ b ∷ []) k r e pos small = refl
triples_odd_by (a ∷ b ∷ c ∷ ns) zero r e pos small = absurd (omega (arith, e))
triples_odd_by (a ∷ b ∷ c ∷ ns) (suc k) r e pos small = rw (triples_odd_by ns k r (omega (arith, e)) pos small) refl

pub triples_even : (ns : List ℕ) → length ns % 3 ≡ 0 → triples_from ns ≡ Ok (map triple_from (first_chunks 3 (length ns / 3) ns))
triples_even ns e = triples_even_by ns (length ns / 3) (omega (arith, e))

pub triples_odd : (ns : List ℕ) → 0 < length ns % 3 → triples_from ns ≡ Err bad_line
triples_odd ns e = triples_odd_by ns (length ns / 3) (length ns % 3) (omega (arith, e)) e (omega (arith, e))
