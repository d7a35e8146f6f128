-- What a number or a row of numbers that was read says of the bytes, and when they are read.
use Rattle.std.proofs.Common.{◌≡◌, ℕ, zero, suc, ◌+◌, ◌*◌, ◌≤◌, ◌<◌, Bool, true, false, cond, ltb, List, [], ◌∷◌, ◌++◌, length, get_or, Result, Ok, Err, refl, sym, ap, subst, ◌∙◌, append_assoc, arith}
use Rattle.std.proofs.lemmas.Bool.{ltb-false, le-ltb}
use Rattle.std.proofs.lemmas.List.{append-nil}
use Rattle.machine_image.specs.Reading.{◌>>=◌, field_at, tested_at, each_at}
use Rattle.machine_image.proofs.Bytes.{AreBytes, Front, front_more}

-- the value of a step that did not fail
pub bind_ok : {A B : Type 0} (r : Result A ℕ) (f : A → Result B ℕ) (y : B) → (r >>= f) ≡ Ok y → (x : A) × (r ≡ Ok x) × (f x ≡ Ok y)
bind_ok (Ok x) f y e = (x, refl, e)
bind_ok (Err d) f y e = absurd cc

-- tests that did not fail
pub guard_ok : {A : Type 0} (b : Bool) (d : ℕ) (r : Result A ℕ) (y : A) → cond b (Err d) r ≡ Ok y → (b ≡ false) × (r ≡ Ok y)
guard_ok true d r y e = absurd cc
guard_ok false d r y e = (refl, e)

held_ok : {A : Type 0} (b : Bool) (d : ℕ) (x y : A) → cond b (Ok x) (Err d) ≡ Ok y → (b ≡ true) × (x ≡ y)
held_ok true d x y e = (refl, cc)
held_ok false d x y e = absurd cc

pub done_ok : {A : Type 0} (b : Bool) (d : ℕ) (x y : A) → cond b (Err d) (Ok x) ≡ Ok y → (b ≡ false) × (x ≡ y)
done_ok true d x y e = absurd cc
done_ok false d x y e = (refl, cc)

-- ---- one number
pub record Holds (test : ℕ → Bool) (bytes : List ℕ) (k x : ℕ) : Type 0 where
  pub whole : 8 * k + 8 ≤ length bytes
  pub is : field_at bytes k ≡ x
  pub right : test x ≡ true

pub tested_holds : (test : ℕ → Bool) (bytes : List ℕ) (k x : ℕ) → tested_at test bytes k ≡ Ok x → Holds test bytes k x
unfolding tested_at
tested_holds test bytes k x e =
    let g = guard_ok (ltb (length bytes) (8 * k + 8)) (length bytes) (cond (test (field_at bytes k)) (Ok (field_at bytes k)) (Err (8 * k))) x e in
    let h = held_ok (test (field_at bytes k)) (8 * k) (field_at bytes k) x g.1 in
    record { whole = ltb-false _ _ g.0; is = h.1; right = sym (ap test h.1) ∙ h.0 }

pub holds_tested : (test : ℕ → Bool) (bytes : List ℕ) (k x : ℕ) → Holds test bytes k x → tested_at test bytes k ≡ Ok x
unfolding tested_at
holds_tested test bytes k x h =
    let long = le-ltb (length bytes) (8 * k + 8) h.whole in
    let right : test (field_at bytes k) ≡ true = ap test h.is ∙ h.right in
    rw (long, right) (ap (λ (n : ℕ). Ok n) h.is)

-- ---- a row of numbers
pub record HoldsEach (test : ℕ → ℕ → Bool) (bytes : List ℕ) (i k : ℕ) (xs : List ℕ) : Type 0 where
  pub each : (j : ℕ) → j < length xs → Holds (test (i + j)) bytes (k + j) (get_or xs j 0)

holds_at : (test : ℕ → ℕ → Bool) (bytes : List ℕ) (i k x : ℕ) (xs : List ℕ) → Holds (test i) bytes k x → HoldsEach test bytes (suc i) (suc k) xs → (j : ℕ) → j < suc (length xs) → Holds (test (i + j)) bytes (k + j) (get_or (x ∷ xs) j 0)
holds_at test bytes i k x xs first others zero inside =
    let a : i + 0 ≡ i = omega arith in
    let b : k + 0 ≡ k = omega arith in
    rw (a, b) first
holds_at test bytes i k x xs first others (suc j) inside =
    let a : i + suc j ≡ suc i + j = omega arith in
    let b : k + suc j ≡ suc k + j = omega arith in
    rw (a, b) (others.each j (omega arith))

holds_later : (test : ℕ → ℕ → Bool) (bytes : List ℕ) (i k x : ℕ) (xs : List ℕ) → HoldsEach test bytes i k (x ∷ xs) → HoldsEach test bytes (suc i) (suc k) xs
holds_later test bytes i k x xs h = record {
  each = λ j inside.
      let a : i + suc j ≡ suc i + j = omega arith in
      let b : k + suc j ≡ suc k + j = omega arith in
      rw (a, b) at (h.each (suc j) (omega arith));
}

holds_first : (test : ℕ → ℕ → Bool) (bytes : List ℕ) (i k x : ℕ) (xs : List ℕ) → HoldsEach test bytes i k (x ∷ xs) → Holds (test i) bytes k x
holds_first test bytes i k x xs h =
    let a : i + 0 ≡ i = omega arith in
    let b : k + 0 ≡ k = omega arith in
    rw (a, b) at (h.each 0 (omega arith))

pub each_holds : (test : ℕ → ℕ → Bool) (bytes : List ℕ) (i k n : ℕ) (xs : List ℕ) → each_at (λ d. tested_at (test d) bytes) i k n ≡ Ok xs → (length xs ≡ n) × HoldsEach test bytes i k xs
unfolding each_at
each_holds test bytes i k zero xs e =
    let none : [] ≡ xs = cc in
    subst (λ (ys : List ℕ). (length ys ≡ 0) × HoldsEach test bytes i k ys) none (refl, record { each = λ j inside. absurd (omega arith) })
each_holds test bytes i k (suc n) xs e =
    let read : ℕ → ℕ → Result ℕ ℕ = λ d. tested_at (test d) bytes in
    let a = bind_ok (read i k) (λ first. each_at read (suc i) (suc k) n >>= λ others. Ok (first ∷ others)) xs e in
    let b = bind_ok (each_at read (suc i) (suc k) n) (λ others. Ok (a.0 ∷ others)) xs a.2 in
    let others = each_holds test bytes (suc i) (suc k) n b.0 b.1 in
    let first = tested_holds (test i) bytes k a.0 a.1 in
    let whole : a.0 ∷ b.0 ≡ xs = cc in
    subst (λ (ys : List ℕ). (length ys ≡ suc n) × HoldsEach test bytes i k ys) whole (ap suc others.0, record { each = holds_at test bytes i k a.0 b.0 first others.1 })

pub holds_each : (test : ℕ → ℕ → Bool) (bytes : List ℕ) (i k : ℕ) (xs : List ℕ) → HoldsEach test bytes i k xs → each_at (λ d. tested_at (test d) bytes) i k (length xs) ≡ Ok xs
unfolding each_at
holds_each test bytes i k [] h = refl
holds_each test bytes i k (x ∷ xs) h =
    let first = holds_tested (test i) bytes k x (holds_first test bytes i k x xs h) in
    let others = holds_each test bytes (suc i) (suc k) xs (holds_later test bytes i k x xs h) in
    rw (first, others) refl

-- the bytes begin with these numbers too
pub front_each : (test : ℕ → ℕ → Bool) (bytes : List ℕ) (i k : ℕ) (ns xs : List ℕ) → AreBytes bytes → Front bytes k ns → HoldsEach test bytes i k xs → Front bytes (k + length xs) (ns ++ xs)
front_each test bytes i k ns [] are front h =
    let a : k + 0 ≡ k = omega arith in
    rw (a, append-nil ns) front
front_each test bytes i k ns (x ∷ xs) are front h =
    let first = holds_first test bytes i k x xs h in
    let more = front_more bytes k ns x are front first.whole first.is in
    let a : k + 1 ≡ suc k = omega arith in
    let b : suc k + length xs ≡ k + suc (length xs) = omega arith in
    let all = front_each test bytes (suc i) (suc k) (ns ++ x ∷ []) xs are (rw a at more) (holds_later test bytes i k x xs h) in
    subst (λ (ys : List ℕ). Front bytes (k + suc (length xs)) ys) (append_assoc ns (x ∷ []) xs) (rw b at all)
