-- Lists of a hand with an element changed, and with several more or fewer.
use Rattle.std.proofs.Common.{◌≡◌, ◌≢◌, ℕ, ◌+◌, ◌≤◌, List, [], ◌∷◌, Some, refl, sym, ◌∙◌, ap, arith, inl, inr, zero, suc, subst}
use Rattle.std.proofs.lemmas.Bool.{cases_eq}
use Rattle.xp_board.specs.Lists.{one_at, first_by, without_by, changed_by, EachOf, times, with_more, with_fewer, times_by}
use Rattle.xp_board.proofs.Sums.{when_eq}
use Rattle.xp_board.proofs.ListCounts.{times_by-without, times_by-cons_here, times_by-cons_other, times_by-without_other, EachOf-absent}
use Rattle.xp_board.proofs.HandLists.{EachOf-map, first-key}
use Rattle.xp_words.proofs.Shared.{eq_false as when_ne}

-- ---- a list with the first element of a number changed
pub first_by-changed_here : {A : Type 0} (key : A → ℕ) (f : ℕ) (change : A → A) (xs : List A) (e : A) → ((x : A) → key (change x) ≡ key x) → first_by key f xs ≡ Some e →
    first_by key f (changed_by key f change xs) ≡ Some (change e)
unfolding first_by changed_by
first_by-changed_here key f change [] e k here = absurd (cc)
first_by-changed_here key f change (x ∷ xs) e k here =
    elim (cases_eq (key x) f) [
      | inl at ↦
          let i : Some x ≡ Some e = rw (when_eq (key x) f at) at here in
          let j : x ≡ e = cc in
          rw (when_eq (key x) f at) (rw (when_eq (key (change x)) f (k x ∙ at)) (ap (λ y. Some (change y)) j))
      | inr off ↦
          let rest = first_by-changed_here key f change xs e k (rw (when_ne (key x) f off) at here) in
          rw (when_ne (key x) f off) (rw (when_ne (key x) f off) rest)
    ]

pub first_by-changed_other : {A : Type 0} (key : A → ℕ) (g f : ℕ) (change : A → A) (xs : List A) → ((x : A) → key (change x) ≡ key x) → g ≢ f →
    first_by key g (changed_by key f change xs) ≡ first_by key g xs
unfolding first_by changed_by
first_by-changed_other key g f change [] k n = refl
first_by-changed_other key g f change (x ∷ xs) k n =
    elim (cases_eq (key x) f) [
      | inl at ↦
          rw (when_eq (key x) f at)
          (rw (when_ne (key (change x)) g (λ e. n (sym e ∙ k x ∙ at)), when_ne (key x) g (λ e. n (sym e ∙ at))) refl)
      | inr off ↦
          rw (when_ne (key x) f off)
          (elim (cases_eq (key x) g) [
            | inl here ↦ rw (when_eq (key x) g here) refl
            | inr there ↦ rw (when_ne (key x) g there) (first_by-changed_other key g f change xs k n)
          ])
    ]

-- ---- several of one number
pub times-with_more_here : (n g : ℕ) (xs : List ℕ) → times g (with_more n g xs) ≡ n + times g xs
unfolding with_more
times-with_more_here zero g xs = omega arith
times-with_more_here (suc n) g xs =
    let here = times_by-cons_here (λ x. x) g g (with_more n g xs) refl in
    let rest = times-with_more_here n g xs in
    omega arith

pub times-with_more_other : (n g f : ℕ) (xs : List ℕ) → f ≢ g → times g (with_more n f xs) ≡ times g xs
unfolding with_more
times-with_more_other zero g f xs off = refl
times-with_more_other (suc n) g f xs off = times_by-cons_other (λ x. x) g f (with_more n f xs) off ∙ times-with_more_other n g f xs off

pub times-with_fewer_here : (n g : ℕ) (xs : List ℕ) → n ≤ times g xs → times g (with_fewer n g xs) + n ≡ times g xs
unfolding with_fewer
times-with_fewer_here zero g xs b = omega arith
times-with_fewer_here (suc n) g xs b =
    let one : one_at g g ≡ 1 = rw (when_eq g g refl) in
    let out = times_by-without (λ x. x) g g xs (omega arith) in
    let rest = times-with_fewer_here n g (without_by (λ x. x) g xs) (omega arith) in
    omega arith

pub times-with_fewer_other : (n g f : ℕ) (xs : List ℕ) → g ≢ f → times g (with_fewer n f xs) ≡ times g xs
unfolding with_fewer
times-with_fewer_other zero g f xs off = refl
times-with_fewer_other (suc n) g f xs off = times-with_fewer_other n g f (without_by (λ x. x) f xs) off ∙ times_by-without_other (λ x. x) g f xs off

-- the first element of a number changes
pub EachOf-changed_into : {A : Type 0} (P Q : A → Type 0) (key : A → ℕ) (f : ℕ) (change : A → A) (xs : List A) → ((x : A) → P x → Q x) → ((x : A) → first_by key f xs ≡ Some x → P x → Q (change x)) →
    EachOf P xs → EachOf Q (changed_by key f change xs)
unfolding EachOf changed_by first_by
EachOf-changed_into P Q key f change [] k new e = tt
EachOf-changed_into P Q key f change (x ∷ xs) k new e =
    elim (cases_eq (key x) f) [
      | inl at ↦ rw (when_eq (key x) f at) (new x (rw (when_eq (key x) f at) refl) e.0, EachOf-map P Q xs k e.1)
      | inr off ↦ rw (when_ne (key x) f off) (k x e.0, EachOf-changed_into P Q key f change xs k (λ y i p. new y (rw (when_ne (key x) f off) i) p) e.1)
    ]

-- so does each that has the number
pub EachOf-changes : {A : Type 0} (P Q : A → Type 0) (key : A → ℕ) (g : ℕ) (change : A → A) (xs : List A) →
    ((e : A) → key e ≡ g → P e → Q (change e)) → ((e : A) → P e → Q e) → EachOf P xs → EachOf Q (changed_by key g change xs)
EachOf-changes P Q key g change xs f o h = EachOf-changed_into P Q key g change xs o (λ e at p. f e (first-key key g e xs at) p) h

-- ---- the one element of a number changes, and the others are of other numbers
pub EachOf-changed_once : {A : Type 0} (P Q : A → Type 0) (key : A → ℕ) (g : ℕ) (change : A → A) (xs : List A) → times_by key g xs ≤ 1 →
    ((e : A) → first_by key g xs ≡ Some e → P e → Q (change e)) → ((e : A) → key e ≢ g → P e → Q e) → EachOf P xs → EachOf Q (changed_by key g change xs)
unfolding EachOf times_by first_by changed_by
EachOf-changed_once P Q key g change [] few f o h = tt
EachOf-changed_once P Q key g change (x ∷ xs) few f o h =
    elim (cases_eq (key x) g) [
      | inl at ↦
          let one : one_at g (key x) ≡ 1 = rw (when_eq (key x) g at) in
          rw (when_eq (key x) g at) (f x (rw (when_eq (key x) g at) refl) h.0, EachOf-absent P Q key g xs (omega arith) o h.1)
      | inr off ↦
          rw (when_ne (key x) g off)
          (o x off h.0, EachOf-changed_once P Q key g change xs (omega arith) (λ e at p. f e (rw (when_ne (key x) g off) at) p) o h.1)
    ]

pub EachOf-changed_one : {A : Type 0} (P Q : A → Type 0) (key : A → ℕ) (g : ℕ) (change : A → A) (xs : List A) → times_by key g xs ≤ 1 →
    ((e : A) → key e ≡ g → P e → Q (change e)) → ((e : A) → key e ≢ g → P e → Q e) → EachOf P xs → EachOf Q (changed_by key g change xs)
EachOf-changed_one P Q key g change xs few f o h = EachOf-changed_once P Q key g change xs few (λ e at p. f e (first-key key g e xs at) p) o h

-- it is that which was found first
pub EachOf-changed_first : {A : Type 0} (P Q : A → Type 0) (key : A → ℕ) (g : ℕ) (change : A → A) (e : A) (xs : List A) → times_by key g xs ≤ 1 → first_by key g xs ≡ Some e →
    (P e → Q (change e)) → ((x : A) → key x ≢ g → P x → Q x) → EachOf P xs → EachOf Q (changed_by key g change xs)
EachOf-changed_first P Q key g change e xs few here f o h =
    EachOf-changed_once P Q key g change xs few
    (λ y at p. let both : Some e ≡ Some y = sym here ∙ at in let is : e ≡ y = cc in subst (λ z. Q (change z)) is (f (subst P (sym is) p))) o h
