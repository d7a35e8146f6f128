-- Reading numbers one after the other, as a loop does.
use Rattle.std.proofs.Common.{◌≡◌, ℕ, suc, ◌-◌, ◌+◌, ◌≤◌, ◌<◌, List, [], ◌∷◌, ◌++◌, Result, Ok, Err, refl, sym, ap, ◌∙◌, append_assoc, arith}
use Rattle.std.proofs.lemmas.List.{append-nil}
use Rattle.machine_image.specs.declared.fault.ImageFault.{ImageFault}
use Rattle.machine_image.specs.declared.fault.ImageFault.TheVariants.{Bad, Memory}
use Rattle.machine_image.specs.Reading.{◌>>=◌, FailsThere, each_at}

-- what was read before, and what is still read
abbrev pub with_front : List ℕ → Result (List ℕ) ℕ → Result (List ℕ) ℕ
with_front front read = read >>= λ xs. Ok (front ++ xs)

regroup : (front : List ℕ) (x : ℕ) (read : Result (List ℕ) ℕ) → with_front front (read >>= λ xs. Ok (x ∷ xs)) ≡ with_front (front ++ x ∷ []) read
regroup front x (Ok xs) = ap (λ (ys : List ℕ). Ok ys) (simp append_assoc)
regroup front x (Err at) = refl

module _ (read : ℕ → ℕ → Result ℕ ℕ) (front : List ℕ) (n i k : ℕ) (total : Result (List ℕ) ℕ) where
  pub goes_on : (x : ℕ) → i < n → read i (k + i) ≡ Ok x → with_front front (each_at read i (k + i) (n - i)) ≡ total → with_front (front ++ x ∷ []) (each_at read (i + 1) (k + (i + 1)) (n - (i + 1))) ≡ total
  unfolding each_at
  goes_on x lt h so_far =
      let m : n - i ≡ suc (n - (i + 1)) = omega arith in
      let one : with_front front (each_at read i (k + i) (n - i)) ≡ with_front (front ++ x ∷ []) (each_at read (suc i) (suc (k + i)) (n - (i + 1))) = rw (m, h) (regroup front x (each_at read (suc i) (suc (k + i)) (n - (i + 1)))) in
      let j : suc i ≡ i + 1 = omega arith in
      let p : suc (k + i) ≡ k + (i + 1) = omega arith in
      let two : with_front (front ++ x ∷ []) (each_at read (suc i) (suc (k + i)) (n - (i + 1))) ≡ with_front (front ++ x ∷ []) (each_at read (i + 1) (k + (i + 1)) (n - (i + 1))) = rw (j, p) refl in
      sym two ∙ sym one ∙ so_far

  pub ends : (e : ImageFault) → i < n → FailsThere e (read i (k + i)) → with_front front (each_at read i (k + i) (n - i)) ≡ total → FailsThere e total
  unfolding each_at
  ends Memory lt h so_far = tt
  ends (Bad at) lt h so_far =
      let m : n - i ≡ suc (n - (i + 1)) = omega arith in
      let one : with_front front (each_at read i (k + i) (n - i)) ≡ Err at = rw (m, h) refl in
      sym so_far ∙ one

  pub is_done : n ≤ i → with_front front (each_at read i (k + i) (n - i)) ≡ total → total ≡ Ok front
  unfolding each_at
  is_done le so_far =
      let m : n - i ≡ 0 = omega arith in
      let one : with_front front (each_at read i (k + i) (n - i)) ≡ Ok front = rw m (ap (λ (ys : List ℕ). Ok ys) (append-nil front)) in
      sym so_far ∙ one
