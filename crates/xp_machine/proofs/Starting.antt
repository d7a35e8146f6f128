-- The vCPUs of a trace before their first turn, with their gates.
use Rattle.std.proofs.Common.{◌≡◌, ℕ, zero, suc, ◌+◌, ◌^◌, ◌<◌, ◌≤◌, List, [], ◌∷◌, length, map, take, refl, sym, ap, ◌∙◌, subst, arith, slice_index_or}
use Rattle.std.specs.Prelude.{sum_by}
use Rattle.std.specs.List.{enumerate_from, range_with_len, zip}
use Rattle.std.proofs.lemmas.List.{get_or-map, length-map}
use Rattle.std.proofs.lemmas.List.Elements.{All-from_get_or}
use Rattle.std.proofs.lemmas.List.FromFn.{length-enumerate_from, get_or-enumerate_from}
use Rattle.std.proofs.lemmas.List.Sums.{get_or-le-sum_by, sum_by-cons}
use Rattle.xp_words.specs.declared.ops.Op.{Op}
use Rattle.xp_words.specs.Machine.{Machine}
use Rattle.vcpu_runners.specs.Cpus.{IsShort, AreShort, first_cpu, first_cpus}
use Rattle.xp_preempt.specs.Gates.{Gate}

-- ---- numbers, scripts and gates side by side
numbered : (a : ℕ) (scripts : List (List Op)) → zip (range_with_len a (length scripts)) scripts ≡ enumerate_from a scripts
numbered a [] = refl
numbered a (s ∷ ss) = ap (λ (l : List (ℕ × List Op)). (a, s) ∷ l) (numbered (a + 1) ss)

firsts : {A B C : Type 0} (f : A → C) (xs : List A) (ys : List B) → length xs ≤ length ys → map (λ p. f p.0) (zip xs ys) ≡ map f xs
firsts f [] ys few = refl
firsts f (x ∷ xs) [] few = absurd (omega arith)
firsts f (x ∷ xs) (y ∷ ys) few = ap (λ l. f x ∷ l) (firsts f xs ys (omega arith))

pub cpus_first : {G : Type 0} (n : Machine) (vcpus : ℕ) (scripts : List (List Op)) (gates : List G) → vcpus ≡ length scripts → length scripts ≤ length gates →
    map (λ p. first_cpu n p.0) (zip (zip (range_with_len 0 vcpus) scripts) gates) ≡ first_cpus n scripts
unfolding first_cpus
cpus_first n vcpus scripts gates all few =
    let numbers : zip (range_with_len 0 vcpus) scripts ≡ enumerate_from 0 scripts = ap (λ k. zip (range_with_len 0 k) scripts) all ∙ numbered 0 scripts in
    ap (λ l. map (λ p. first_cpu n p.0) (zip l gates)) numbers
    ∙ firsts (first_cpu n) (enumerate_from 0 scripts) gates (subst (λ k. k ≤ length gates) (sym (length-enumerate_from 0 scripts)) few)

gates_zip : {A G : Type 0} (gate : G → Gate) (xs : List A) (gates : List G) → map (λ p. gate p.1) (zip xs gates) ≡ take (length xs) (map gate gates)
gates_zip gate [] gates = refl
gates_zip gate (x ∷ xs) [] = refl
gates_zip gate (x ∷ xs) (g ∷ gs) = ap (λ (l : List Gate). gate g ∷ l) (gates_zip gate xs gs)

pub gates_first : {G : Type 0} (gate : G → Gate) (n vcpus : ℕ) (scripts : List (List Op)) (gates : List G) → n ≡ length scripts → vcpus ≡ length scripts →
    map (λ p. gate p.1) (zip (zip (range_with_len 0 vcpus) scripts) gates) ≡ take n (map gate gates)
gates_first gate n vcpus scripts gates few all =
    let numbers : zip (range_with_len 0 vcpus) scripts ≡ enumerate_from 0 scripts = ap (λ k. zip (range_with_len 0 k) scripts) all ∙ numbered 0 scripts in
    ap (λ l. map (λ p. gate p.1) (zip l gates)) numbers ∙ gates_zip gate (enumerate_from 0 scripts) gates
    ∙ ap (λ k. take k (map gate gates)) (length-enumerate_from 0 scripts ∙ sym few)

-- the number of each is one of the machine's
number_real : {X G : Type 0} (a n : ℕ) (xs : List X) (gates : List G) (k : ℕ) (d : (ℕ × X) × G) → k < length (zip (zip (range_with_len a n) xs) gates) →
    (slice_index_or (zip (zip (range_with_len a n) xs) gates) k d).0.0 < a + n
number_real a zero xs gates k d within = absurd (omega arith)
number_real a (suc n) [] gates k d within = absurd (omega arith)
number_real a (suc n) (x ∷ xs) [] k d within = absurd (omega arith)
number_real a (suc n) (x ∷ xs) (g ∷ gs) zero d within = omega arith
number_real a (suc n) (x ∷ xs) (g ∷ gs) (suc k) d within = let rest = number_real (a + 1) n xs gs k d (omega arith) in omega arith

pub number_below : {X G : Type 0} (n vcpus : ℕ) (xs : List X) (gates : List G) (k v : ℕ) (d : (ℕ × X) × G) → k < length (zip (zip (range_with_len 0 n) xs) gates) →
    v ≡ (slice_index_or (zip (zip (range_with_len 0 n) xs) gates) k d).0.0 → n ≡ vcpus → v < vcpus
number_below n vcpus xs gates k v d within at same = let real = number_real 0 n xs gates k d within in omega arith

-- and its script is no longer than all of them together
script_part : {G : Type 0} (a n : ℕ) (scripts : List (List Op)) (gates : List G) (k : ℕ) (d : (ℕ × List Op) × G) → k < length (zip (zip (range_with_len a n) scripts) gates) →
    length ((slice_index_or (zip (zip (range_with_len a n) scripts) gates) k d).0.1) ≤ sum_by length scripts
script_part a zero scripts gates k d within = absurd (omega arith)
script_part a (suc n) [] gates k d within = absurd (omega arith)
script_part a (suc n) (s ∷ ss) [] k d within = absurd (omega arith)
script_part a (suc n) (s ∷ ss) (g ∷ gs) zero d within = let all = sum_by-cons length s ss in omega (arith, all)
script_part a (suc n) (s ∷ ss) (g ∷ gs) (suc k) d within =
    let rest = script_part (a + 1) n ss gs k d (omega arith) in
    let all = sum_by-cons length s ss in
    omega (arith, rest, all)

pub script_short : {G : Type 0} (n : ℕ) (scripts : List (List Op)) (gates : List G) (k : ℕ) (script : List Op) (d : (ℕ × List Op) × G) → k < length (zip (zip (range_with_len 0 n) scripts) gates) →
    script ≡ (slice_index_or (zip (zip (range_with_len 0 n) scripts) gates) k d).0.1 → sum_by length scripts ≤ 65536 → length script < 2 ^ 32
script_short n scripts gates k script d within at few =
    let part = script_part 0 n scripts gates k d within in
    let same = ap (λ (s : List Op). length s) at in
    omega (arith, part, same, few)

-- ---- how many and how long
pub length_first : (n : Machine) (scripts : List (List Op)) → length (first_cpus n scripts) ≡ length scripts
unfolding first_cpus
length_first n scripts = length-map (enumerate_from 0 scripts) (first_cpu n) ∙ length-enumerate_from 0 scripts

pub short_first : (n : Machine) (scripts : List (List Op)) → sum_by length scripts ≤ 65536 → AreShort (first_cpus n scripts)
unfolding first_cpus
short_first n scripts few =
    let numbered_scripts = enumerate_from 0 scripts in
    let none : ℕ × List Op = (0, []) in
    All-from_get_or IsShort (map (first_cpu n) numbered_scripts) (first_cpu n none)
    (λ i within.
    let there : i < length scripts = subst (λ k. i < k) (length-map numbered_scripts (first_cpu n) ∙ length-enumerate_from 0 scripts) within in
    let part = get_or-le-sum_by length scripts i [] there in
    let short : length (slice_index_or scripts i []) < 2 ^ 32 = omega arith in
    subst IsShort (sym (get_or-map (first_cpu n) numbered_scripts i none (first_cpu n none) (subst (λ k. i < k) (sym (length-enumerate_from 0 scripts)) there)))
    (subst (λ (p : ℕ × List Op). length p.1 < 2 ^ 32) (sym (get_or-enumerate_from 0 scripts i none there)) short))
