-- Lists that go on from number to number are determined where each of them is; and so is the one that answers something.
use Rattle.std.proofs.Common.{◌≡◌, ◌≢◌, ◌⊎◌, ℕ, ◌+◌, ◌-◌, ◌<◌, ◌≤◌, nat_lt, Bool, true, false, List, [], ◌++◌, Option, Some, None, append_assoc, refl, sym, ap, ◌∙◌, subst, inl, inr, arith}
use Rattle.std.proofs.lemmas.Bool.Decides.{nat_tests}
use Rattle.step_maker.specs.Visits.{Then, Visit}
use Rattle.frame_claims.specs.Found.{Downwards, FirstOf, Upwards, begins, goes_down, goes_up, starts}
use Rattle.determined_laws.specs.Forks.{Forks, Tie}
use Rattle.determined_laws.proofs.Ties.{forks_newer, same_or, swapped, tie_lists, tie_map, tie_then}

pub tie_off : (us vs : List Visit) (E : Type 0) → Tie us vs E → (E → ⊥) → Forks us vs
tie_off us vs E (inl f) off = f
tie_off us vs E (inr s) off = absurd (off s.1)

pub upwards_from : (P : ℕ → List Visit → Type 0) (from n : ℕ) (vs : List Visit) → Upwards P from n vs → from ≤ n
upwards_from P from _ _ (starts vs e) = omega arith
upwards_from P from _ _ (goes_up n before now vs b p e) = let low = upwards_from P from n before b in omega (arith, low)

pub upwards_as : (P Q : ℕ → List Visit → Type 0) → ((i : ℕ) (us : List Visit) → P i us → Q i us) → (from n : ℕ) (vs : List Visit) → Upwards P from n vs → Upwards Q from n vs
upwards_as P Q so from _ _ (starts vs e) = starts vs e
upwards_as P Q so from _ _ (goes_up n before now vs b p e) = goes_up n before now vs (upwards_as P Q so from n before b) (so n now p) e

-- ---- two that go equally far
module _ (P Q : ℕ → List Visit → Type 0) (E : ℕ → Type 0) (tie : (i : ℕ) (us vs : List Visit) → P i us → Q i vs → Tie us vs (E i)) (from : ℕ) where
  abbrev Each : ℕ → Type 0
  Each n = (i : ℕ) → from ≤ i → i < n → E i

  each_more : (n : ℕ) → Each n → E n → Each (n + 1)
  each_more n before now i low high = by (same_or i n)
    where
      by : (i ≡ n) ⊎ (i ≢ n) → E i
      by (inl s) = subst E (sym s) now
      by (inr d) = before i low (grind (arith, high, d))

  pub both_tie : (n m : ℕ) (us vs : List Visit) → Upwards P from n us → Upwards Q from m vs → n ≡ m → Tie us vs (Each n)
  both_tie _ _ _ _ (starts us e) (starts vs f) same = inr (e ∙ sym f, λ i low high. absurd (omega (arith, low, high)))
  both_tie _ _ _ _ (starts us e) (goes_up m then also vs c q f) same = let low = upwards_from Q from m then c in absurd (omega (arith, low, same))
  both_tie _ _ _ _ (goes_up n before now us b p e) (starts vs f) same = let low = upwards_from P from n before b in absurd (omega (arith, low, same))
  both_tie _ _ _ _ (goes_up n before now us b p e) (goes_up m then also vs c q f) same =
      let one : n ≡ m = omega (arith, same) in
      tie_lists us vs _ _ _ e f (tie_then before then now also (Each n) (Each (n + 1)) (both_tie n m before then b c one) (λ h all. tie_map _ _ _ _ (tie n now also p (subst (λ z. Q z also) (sym one) q)) (λ k. each_more n all k)))

-- the same list for each number
pub upwards_sure : (P : ℕ → List Visit → Type 0) → ((i : ℕ) (us vs : List Visit) → P i us → P i vs → Tie us vs (Unit {0})) → (from n : ℕ) (us vs : List Visit) → Upwards P from n us → Upwards P from n vs → Tie us vs (Unit {0})
upwards_sure P tie from n us vs p q = tie_map us vs _ _ (both_tie P P (λ i. Unit {0}) tie from n n us vs p q refl) (λ e. tt)

-- ---- the part of a longer one that ends with a number
module _ (P : ℕ → List Visit → Type 0) (from : ℕ) where
  pub record Front (us : List Visit) (k : ℕ) : Type 0 where
    pub newer : List Visit
    pub now : List Visit
    pub older : List Visit
    pub list : us ≡ newer ++ (now ++ older)
    pub before : Upwards P from k older
    pub at : P k now

  front_at : (n k : ℕ) (before now us : List Visit) → Upwards P from n before → P n now → us ≡ now ++ before → (k < n → Front before k) → k < n + 1 → (k ≡ n) ⊎ (k ≢ n) → Front us k
  front_at n k before now us b p e more high (inl s) = record { newer = []; now = now; older = before; list = e; before = subst (λ z. Upwards P from z before) (sym s) b; at = subst (λ z. P z now) (sym s) p }
  front_at n k before now us b p e more high (inr d) =
      let f = more (grind (arith, high, d)) in
      record { newer = now ++ f.newer; now = f.now; older = f.older; list = e ∙ (ap (λ z. now ++ z) f.list ∙ sym (append_assoc now f.newer (f.now ++ f.older))); before = f.before; at = f.at }

  pub front : (n k : ℕ) (us : List Visit) → Upwards P from n us → from ≤ k → k < n → Front us k
  front _ k _ (starts us e) low high = absurd (omega (arith, low, high))
  front _ k _ (goes_up n before now us b p e) low high = front_at n k before now us b p e (λ less. front n k before b low less) high (same_or k n)

-- ---- up to the first that answers something
before_by : (i j : ℕ) (b : Bool) → nat_lt i j ≡ b → (i ≡ j) ⊎ (i ≢ j) → (i < j) ⊎ ((i ≡ j) ⊎ (j < i))
before_by i j true e d = inl (grind (arith, nat_tests, e))
before_by i j false e (inl s) = inr (inl s)
before_by i j false e (inr d) = inr (inr (grind (arith, nat_tests, e, d)))

before_or : (i j : ℕ) → (i < j) ⊎ ((i ≡ j) ⊎ (j < i))
before_or i j = before_by i j (nat_lt i j) refl (same_or i j)

-- none below the limit does; or that one does, and none before it
pub data Until {A : Type 0} (P : ℕ → Option A → List Visit → Type 0) (from limit : ℕ) (vs : List Visit) : ℕ × Option A → Type 0 where
  through : Upwards (λ i us. P i None us) from limit vs → Until P from limit vs (limit, None)
  halted : (i : ℕ) (a : A) → i < limit → Then (Upwards (λ j us. P j None us) from i) (P i (Some a)) vs → Until P from limit vs (i, Some a)

module _ {A : Type 0} (P : ℕ → Option A → List Visit → Type 0) (tie : (i : ℕ) (o p : Option A) (us vs : List Visit) → P i o us → P i p vs → Tie us vs (o ≡ p)) (from limit : ℕ) where
  abbrev Silent : ℕ → List Visit → Type 0
  Silent i us = P i None us

  abbrev Halt : ℕ → A → List Visit → Type 0
  Halt i a vs = Then (Upwards Silent from i) (P i (Some a)) vs

  silent_tie : (n : ℕ) (us vs : List Visit) → Upwards Silent from n us → Upwards Silent from n vs → Tie us vs (Unit {0})
  silent_tie n us vs p q = upwards_sure Silent (λ i ps qs a b. tie_map ps qs _ _ (tie i None None ps qs a b) (λ e. tt)) from n us vs p q

  -- the one goes on where the other halts
  parts : (us vs : List Visit) (i : ℕ) (a : A) → Front Silent from us i → Halt i a vs → Forks us vs
  parts us vs i a f t =
      let apart = tie_off (f.now ++ f.older) (t.after ++ t.before) ⊥ (tie_then f.older t.before f.now t.after (Unit {0}) ⊥ (silent_tie i f.older t.before f.before t.first) (λ e s. tie_map _ _ _ _ (tie i None (Some a) f.now t.after f.at t.next) (λ h. absurd cc))) (λ z. z) in
      subst (λ z. Forks z vs) (sym f.list) (subst (λ z. Forks (f.newer ++ (f.now ++ f.older)) z) (sym t.list) (forks_newer (f.now ++ f.older) (t.after ++ t.before) f.newer [] apart))

  halt_from : (i : ℕ) (a : A) (vs : List Visit) → Halt i a vs → from ≤ i
  halt_from i a vs t = upwards_from Silent from i t.before t.first

  goes_halts : (n i : ℕ) (a : A) (us vs : List Visit) → Upwards Silent from n us → Halt i a vs → i < n → Forks us vs
  goes_halts n i a us vs p t low = parts us vs i a (front Silent from n i us p (halt_from i a vs t) low) t

  later_halts : (j i : ℕ) (b a : A) (us vs : List Visit) → Halt j b us → Halt i a vs → i < j → Forks us vs
  later_halts j i b a us vs s t low = subst (λ z. Forks z vs) (sym s.list) (forks_newer s.before vs s.after [] (goes_halts j i a s.before vs s.first t low))

  outcome_same : (i j : ℕ) (o p : Option A) → i ≡ j → o ≡ p → ◌≡◌ {A = ℕ × Option A} (i, o) (j, p)
  outcome_same i j o p e f = rw (e, f) refl

  halts_same : (i j : ℕ) (a b : A) (us vs : List Visit) → Halt i a us → Halt j b vs → i ≡ j → Tie us vs (◌≡◌ {A = ℕ × Option A} (i, Some a) (j, Some b))
  halts_same i j a b us vs s t e =
      let u = subst (λ z. Halt z b vs) (sym e) t in
      tie_lists us vs _ _ _ s.list u.list
      (tie_then s.before u.before s.after u.after (Unit {0}) _ (silent_tie i s.before u.before s.first u.first) (λ h k. tie_map _ _ _ _ (tie i (Some a) (Some b) s.after u.after s.next u.next) (λ o. outcome_same i j (Some a) (Some b) e o)))

  pub until_tie : (z y : ℕ × Option A) (us vs : List Visit) → Until P from limit us z → Until P from limit vs y → Tie us vs (z ≡ y)
  until_tie _ _ us vs (through p) (through q) = tie_map us vs _ _ (silent_tie limit us vs p q) (λ e. refl)
  until_tie _ _ us vs (through p) (halted i a low t) = inl (goes_halts limit i a us vs p t low)
  until_tie _ _ us vs (halted i a low t) (through q) = inl (swapped vs us (goes_halts limit i a vs us q t low))
  until_tie _ _ us vs (halted i a low s) (halted j b high t) = by (before_or i j)
    where
      by : (i < j) ⊎ ((i ≡ j) ⊎ (j < i)) → Tie us vs (◌≡◌ {A = ℕ × Option A} (i, Some a) (j, Some b))
      by (inl less) = inl (swapped vs us (later_halts j i b a vs us t s less))
      by (inr (inl e)) = halts_same i j a b us vs s t e
      by (inr (inr more)) = inl (later_halts i j a b us vs s t more)

-- ---- as it is written of the first that answers something
first_until : {A : Type 0} (P : ℕ → Option A → List Visit → Type 0) (n : ℕ) (o : Option A) (vs : List Visit) → FirstOf P n o vs → (i : ℕ) × Until P 0 n vs (i, o)
first_until P n None vs p = (n, through p)
first_until P n (Some a) vs p = (p.0, halted p.0 a p.1 p.2)

pub first_of_tie : {A : Type 0} (P : ℕ → Option A → List Visit → Type 0) → ((i : ℕ) (o p : Option A) (us vs : List Visit) → P i o us → P i p vs → Tie us vs (o ≡ p)) → (n : ℕ) (o p : Option A) (us vs : List Visit) →
    FirstOf P n o us → FirstOf P n p vs → Tie us vs (o ≡ p)
first_of_tie P tie n o p us vs a b =
    let s = first_until P n o us a in
    let t = first_until P n p vs b in
    tie_map us vs _ _ (until_tie P tie 0 n (s.0, o) (t.0, p) us vs s.1 t.1) (λ e. ap (λ z. z.1) e)

-- ---- downwards, as a list upwards
pub turned_up : (P : ℕ → List Visit → Type 0) (below n : ℕ) (vs : List Visit) → Downwards P below n vs → (n ≤ below) × Upwards (λ i us. P (below - 1 - i) us) 0 (below - n) vs
turned_up P below _ _ (begins vs e) = (omega arith, subst (λ z. Upwards (λ i us. P (below - 1 - i) us) 0 z vs) (omega arith) (starts vs e))
turned_up P below _ _ (goes_down n before now vs b p e) =
    let t = turned_up P below (n + 1) before b in
    let high = t.0 in (
      omega (arith, high),
      subst (λ z. Upwards (λ i us. P (below - 1 - i) us) 0 z vs) (omega (arith, high))
          (goes_up (below - (n + 1)) before now vs t.1 (subst (λ z. P z now) (omega (arith, high)) p) e),
    )
