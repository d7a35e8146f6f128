-- Sums below a number, and sums over the hands of all vCPUs.
use Rattle.std.proofs.Common.{Bool, ◌≡◌, ◌≢◌, ℕ, zero, suc, ◌+◌, ◌<◌, ◌≤◌, refl, sym, ◌∙◌, ap, arith, inl, inr, ◌==◌, true, false, if◌then◌else◌}
use Rattle.std.proofs.lemmas.Bool.{cases_eq}
use Rattle.xp_words.specs.RefWords.{bit}
use Rattle.xp_words.specs.Places.{Sizes}
use Rattle.xp_words.proofs.Shared.{eq_false as when_ne}
use Rattle.xp_board.specs.declared.holdings.Holdings.{Holdings}
use Rattle.xp_board.specs.Sums.{sum_below}
use Rattle.xp_board.specs.Recorded.{hands}
use Rattle.std.proofs.lemmas.Bool.Decides.{nat_tests}
use Rattle.xp_board.specs.Lists.{one_at}

pub sum_below-same : (n : ℕ) (p q : ℕ → ℕ) → ((k : ℕ) → k < n → p k ≡ q k) → sum_below n p ≡ sum_below n q
unfolding sum_below
sum_below-same zero p q e = refl
sum_below-same (suc n) p q e =
    let here : p n ≡ q n = e n (omega arith) in
    let rest = sum_below-same n p q (λ k b. e k (omega arith)) in
    omega arith

-- a sum changes by what changes at one number
pub sum_below-one : (n : ℕ) (p q : ℕ → ℕ) (j : ℕ) → j < n → ((k : ℕ) → k ≢ j → p k ≡ q k) → sum_below n p + q j ≡ sum_below n q + p j
unfolding sum_below
sum_below-one zero p q j b e = absurd (omega arith)
sum_below-one (suc n) p q j b e =
    elim (cases_eq j n) [
      | inl at ↦
          let same = sum_below-same n p q (λ k l. e k (λ i. absurd (omega arith))) in
          let pj = ap p at in
          let qj = ap q at in
          omega arith
      | inr off ↦
          let here : p n ≡ q n = e n (λ i. off (sym i)) in
          let rest = sum_below-one n p q j (omega arith) e in
          omega arith
    ]

-- each part is at most the sum
pub sum_below-part : (n : ℕ) (p : ℕ → ℕ) (j : ℕ) → j < n → p j ≤ sum_below n p
unfolding sum_below
sum_below-part zero p j b = absurd (omega arith)
sum_below-part (suc n) p j b =
    elim (cases_eq j n) [
      | inl at ↦ let e = ap p at in omega arith
      | inr off ↦ let rest = sum_below-part n p j (let k : j ≢ n = off in omega arith) in omega arith
    ]

-- two parts are at most the sum
pub sum_below-two : (n : ℕ) (p : ℕ → ℕ) (j k : ℕ) → j < n → k < n → j ≢ k → p j + p k ≤ sum_below n p
unfolding sum_below
sum_below-two zero p j k a b off = absurd (omega arith)
sum_below-two (suc n) p j k a b off =
    elim (cases_eq j n) [
      | inl at ↦
          let e = ap p at in
          let rest = sum_below-part n p k (let o : k ≢ n = λ i. off (at ∙ sym i) in omega arith) in
          omega arith
      | inr away ↦
          elim (cases_eq k n) [
            | inl at ↦
                let e = ap p at in
                let rest = sum_below-part n p j (let o : j ≢ n = away in omega arith) in
                omega arith
            | inr far ↦
                let rest = sum_below-two n p j k (let o : j ≢ n = away in omega arith) (let o : k ≢ n = far in omega arith) off in
                omega arith
          ]
    ]

-- what one hand has is at most what all have
pub hands-part : (c : Holdings → ℕ) (z : Sizes) (h : ℕ → Holdings) (s : ℕ) → s < z.vcpus → c (h s) ≤ hands c z h
unfolding hands
hands-part c z h s b = sum_below-part z.vcpus (λ t. c (h t)) s b

-- so is what two have
pub hands-two : (c : Holdings → ℕ) (z : Sizes) (h : ℕ → Holdings) (s t : ℕ) → s < z.vcpus → t < z.vcpus → s ≢ t → c (h s) + c (h t) ≤ hands c z h
unfolding hands
hands-two c z h s t a b off = sum_below-two z.vcpus (λ u. c (h u)) s t a b off

-- a sum that is not 0 has a part that is not
pub sum_below-some : (n : ℕ) (p : ℕ → ℕ) → 0 < sum_below n p → (j : ℕ) × (j < n) × (0 < p j)
unfolding sum_below
sum_below-some zero p h = absurd (omega arith)
sum_below-some (suc n) p h =
    elim (cases_eq (p n) 0) [
      | inl none ↦ let r = sum_below-some n p (omega arith) in let l = r.1 in (r.0, omega arith, r.2)
      | inr some ↦ (n, omega arith, (let k : p n ≢ 0 = some in omega arith))
    ]

-- a sum of no more
pub sum_below-fewer : (n : ℕ) (p q : ℕ → ℕ) → ((k : ℕ) → p k ≤ q k) → sum_below n p ≤ sum_below n q
unfolding sum_below
sum_below-fewer zero p q e = omega arith
sum_below-fewer (suc n) p q e = let r = sum_below-fewer n p q e in let l = e n in omega arith

-- ---- tests
-- what holds of both holds of either
pub either {ℓ} : {A : Type 0} (P : A → Type ℓ) (t : Bool) (x y : A) → P x → P y → P (if t then x else y)
either P true x y a b = a
either P false x y a b = b

pub when_eq : (x y : ℕ) → x ≡ y → (x == y) ≡ true
when_eq x y e = grind (arith, nat_tests)

pub when_found : {A : Type 0} (w e : ℕ) (y z : A) → w ≡ e → (if w == e then y else z) ≡ y
when_found w e y z at = grind (arith, nat_tests)

pub when_lost : {A : Type 0} (w e : ℕ) (y z : A) → w ≢ e → (if w == e then y else z) ≡ z
when_lost w e y z off = grind (arith, nat_tests)

-- where a number is tested against itself
pub if_itself : {A : Type 0} (s : ℕ) (y z : A) → (if s == s then y else z) ≡ y
if_itself s y z = rw (when_eq s s refl) refl

pub one_at-same : (g : ℕ) → one_at g g ≡ 1
one_at-same g = rw (when_eq g g refl)

pub one_at-other : (g f : ℕ) → g ≢ f → one_at g f ≡ 0
one_at-other g f n = rw (when_ne f g (λ e. n (sym e)))

pub bit_most : (b : Bool) → bit b ≤ 1
bit_most true = omega arith
bit_most false = omega arith

pub some_bit : (b : Bool) → 0 < bit b → b ≡ true
some_bit true k = refl
some_bit false k = absurd (omega arith)

pub no_bit : (b : Bool) → bit b ≡ 0 → b ≡ false
no_bit true e = absurd (omega arith)
no_bit false e = refl

pub same_bit : (a b : Bool) → bit a ≡ bit b → a ≡ b
same_bit true true e = refl
same_bit false false e = refl
same_bit true false e = absurd (omega (arith, e))
same_bit false true e = absurd (omega (arith, e))

pub sum_below-plus : (n : ℕ) (p q r : ℕ → ℕ) → ((k : ℕ) → k < n → r k ≡ p k + q k) → sum_below n r ≡ sum_below n p + sum_below n q
unfolding sum_below
sum_below-plus zero p q r e = refl
sum_below-plus (suc n) p q r e =
    let here = e n (omega arith) in
    let rest = sum_below-plus n p q r (λ k b. e k (omega arith)) in
    omega arith

pub sum_below-none : (n : ℕ) (p : ℕ → ℕ) → ((k : ℕ) → k < n → p k ≡ 0) → sum_below n p ≡ 0
unfolding sum_below
sum_below-none zero p e = refl
sum_below-none (suc n) p e = let here = e n (omega arith) in let rest = sum_below-none n p (λ k b. e k (omega arith)) in omega arith

-- where one part alone is not 0, it is the sum
pub sum_below-only : (n : ℕ) (p : ℕ → ℕ) (j : ℕ) → j < n → ((k : ℕ) → k < n → k ≢ j → p k ≡ 0) → sum_below n p ≡ p j
unfolding sum_below
sum_below-only zero p j b e = absurd (omega arith)
sum_below-only (suc n) p j b e =
    elim (cases_eq j n) [
      | inl at ↦
          let none = sum_below-none n p (λ k l. e k (omega arith) (λ i. absurd (omega arith))) in
          let pj = ap p at in
          omega arith
      | inr off ↦
          let here = e n (omega arith) (λ i. off (sym i)) in
          let o : j ≢ n = off in
          let rest = sum_below-only n p j (omega arith) (λ k l i. e k (omega arith) i) in
          omega arith
    ]

-- ---- the hands of all vCPUs
-- a part that is the vCPU's as it was is so of all
pub seat_same : {A : Type 0} (part : Holdings → A) (s : ℕ) (h b : ℕ → Holdings) → ((t : ℕ) → t ≢ s → b t ≡ h t) → part (b s) ≡ part (h s) → (v : ℕ) → part (b v) ≡ part (h v)
seat_same part s h b others e v = elim (cases_eq v s) [ inl at ↦ rw at e | inr off ↦ ap part (others v off) ]

pub hands-one : (c : Holdings → ℕ) (z : Sizes) (h h2 : ℕ → Holdings) (s : ℕ) → s < z.vcpus → ((t : ℕ) → t ≢ s → h2 t ≡ h t) →
    hands c z h2 + c (h s) ≡ hands c z h + c (h2 s)
unfolding hands
hands-one c z h h2 s b e = sum_below-one z.vcpus (λ t. c (h2 t)) (λ t. c (h t)) s b (λ t n. ap c (e t n))

pub hands-plus : (c d e : Holdings → ℕ) (z : Sizes) (h : ℕ → Holdings) → ((u : Holdings) → e u ≡ c u + d u) → hands e z h ≡ hands c z h + hands d z h
unfolding hands
hands-plus c d e z h k = sum_below-plus z.vcpus (λ t. c (h t)) (λ t. d (h t)) (λ t. e (h t)) (λ t b. k (h t))

pub hands-only : (c : Holdings → ℕ) (z : Sizes) (h : ℕ → Holdings) (s : ℕ) → s < z.vcpus → ((t : ℕ) → t < z.vcpus → t ≢ s → c (h t) ≡ 0) → hands c z h ≡ c (h s)
unfolding hands
hands-only c z h s b e = sum_below-only z.vcpus (λ t. c (h t)) s b e

pub hands-fewer : (c d : Holdings → ℕ) (z : Sizes) (h : ℕ → Holdings) → ((u : Holdings) → c u ≤ d u) → hands c z h ≤ hands d z h
unfolding hands
hands-fewer c d z h e = sum_below-fewer z.vcpus (λ s. c (h s)) (λ s. d (h s)) (λ s. e (h s))

-- where some vCPU has what is counted, there is one that has
pub hands-some : (c : Holdings → ℕ) (z : Sizes) (h : ℕ → Holdings) → 0 < hands c z h → (s : ℕ) × (s < z.vcpus) × (0 < c (h s))
unfolding hands
hands-some c z h b = sum_below-some z.vcpus (λ s. c (h s)) b

pub one_is : (g w : ℕ) → 0 < one_at g w → w ≡ g
one_is g w some = elim (cases_eq w g) [ inl at ↦ at | inr off ↦ absurd (let z : one_at g w ≡ 0 = grind (arith, nat_tests) in omega arith) ]

pub some_of : (t : Bool) (x : ℕ) → 0 < (if t then x else 0) → (t ≡ true) × (0 < x)
some_of true x some = (refl, some)
some_of false x some = absurd (omega arith)
