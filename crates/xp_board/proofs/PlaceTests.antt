-- Two places are the same, or they are not; and the test of it.
use Rattle.std.proofs.Common.{◌≡◌, ◌≢◌, ℕ, ◌==◌, ◌⊎◌, Bool, true, false, refl, ap, sym, ◌∙◌, inl, inr, arith, if◌then◌else◌}
use Rattle.std.proofs.lemmas.Bool.Decides.{nat_tests}
use Rattle.xp_words.specs.declared.place.Place.{Place}
use Rattle.xp_words.specs.declared.place.Place.TheVariants.{Clock, Pages, Life, Vcpu, Refs, Kind, M2p, Cell, Map, Priv}
use Rattle.xp_board.specs.Steps.{is_same}

pub equal_refl : (n : ℕ) → (n == n) ≡ true
equal_refl n = grind (arith, nat_tests)

pub is_same-refl : (p : Place) → is_same p p ≡ true
is_same-refl Clock = refl
is_same-refl (Pages d) = equal_refl d
is_same-refl (Life d) = equal_refl d
is_same-refl (Vcpu v k) = rw (equal_refl v) (equal_refl k)
is_same-refl (Refs f) = equal_refl f
is_same-refl (Kind f) = equal_refl f
is_same-refl (M2p f) = equal_refl f
is_same-refl (Cell f i) = rw (equal_refl f) (equal_refl i)
is_same-refl (Map k) = equal_refl k
is_same-refl (Priv d) = equal_refl d

pub is_same-by : (p q : Place) → p ≡ q → is_same p q ≡ true
is_same-by p q e = rw e (is_same-refl q)

pub equal_by : (x y : ℕ) → (x == y) ≡ true → x ≡ y
equal_by x y e = grind (arith, nat_tests)

both_equal : (x y v w : ℕ) → (if x == y then v == w else false) ≡ true → (x ≡ y) × (v ≡ w)
both_equal x y v w e = grind (arith, nat_tests)

pub same_place : (p q : Place) → is_same p q ≡ true → p ≡ q
same_place Clock Clock e = refl
same_place (Pages d) (Pages b) e = ap Pages (equal_by d b e)
same_place (Life d) (Life b) e = ap Life (equal_by d b e)
same_place (Vcpu v k) (Vcpu w j) e = let b = both_equal v w k j e in cc
same_place (Refs f) (Refs g) e = ap Refs (equal_by f g e)
same_place (Kind f) (Kind g) e = ap Kind (equal_by f g e)
same_place (M2p f) (M2p g) e = ap M2p (equal_by f g e)
same_place (Cell f i) (Cell g j) e = let b = both_equal f g i j e in cc
same_place (Map k) (Map j) e = ap Map (equal_by k j e)
same_place (Priv d) (Priv b) e = ap Priv (equal_by d b e)
same_place _ _ e = cc

other_by : (b : Bool) (p q : Place) → p ≢ q → is_same p q ≡ b → b ≡ false
other_by true p q n e = absurd (n (same_place p q e))
other_by false p q n e = refl

pub is_same-other : (p q : Place) → p ≢ q → is_same p q ≡ false
is_same-other p q n = other_by (is_same p q) p q n refl

by_test : (b : Bool) (p q : Place) → is_same p q ≡ b → (p ≡ q) ⊎ (p ≢ q)
by_test true p q e = inl (same_place p q e)
by_test false p q e = inr (λ at. let t : true ≡ false = sym (is_same-by p q at) ∙ e in cc)

pub same_or_other : (p q : Place) → (p ≡ q) ⊎ (p ≢ q)
same_or_other p q = by_test (is_same p q) p q refl
