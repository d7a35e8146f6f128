-- Two lists whose elements agree one by one.
use Rattle.std.proofs.Common.{◌≡◌, ℕ, List, [], ◌∷◌, true, Some, refl, sym, ◌∙◌, ap, inl, inr}
use Rattle.std.proofs.lemmas.Bool.{cases_eq}
use Rattle.xp_words.specs.KindWords.{kind_fields}
use Rattle.xp_words.proofs.Shared.{eq_false as when_ne}
use Rattle.xp_board.specs.declared.holdings.Work.{Work}
use Rattle.xp_board.specs.declared.holdings.Lock.{Lock}
use Rattle.xp_board.specs.declared.holdings.Claimed.{Claimed}
use Rattle.xp_board.specs.Lists.{times_by, first_by, changed_by, EachOf}
use Rattle.xp_board.specs.Recorded.{recorded_in}
use Rattle.xp_board.proofs.Sums.{when_eq}

unfoldable pub EachTwo : {A : Type 0} → (A → A → Type 0) → List A → List A → Type 0
EachTwo R [] [] = Unit {0}
EachTwo R (x ∷ xs) (y ∷ ys) = R x y × EachTwo R xs ys
EachTwo R [] (y ∷ ys) = ⊥
EachTwo R (x ∷ xs) [] = ⊥

pub EachTwo-same : {A : Type 0} (R : A → A → Type 0) (xs : List A) → ((x : A) → R x x) → EachTwo R xs xs
unfolding EachTwo
EachTwo-same R [] same = tt
EachTwo-same R (x ∷ xs) same = (same x, EachTwo-same R xs same)

pub EachTwo-changed : {A : Type 0} (R : A → A → Type 0) (key : A → ℕ) (f : ℕ) (change : A → A) (xs : List A) → ((x : A) → R x x) → ((x : A) → R x (change x)) →
    EachTwo R xs (changed_by key f change xs)
unfolding EachTwo changed_by
EachTwo-changed R key f change [] same new = tt
EachTwo-changed R key f change (x ∷ xs) same new =
    elim (cases_eq (key x) f) [
      | inl at ↦ rw (when_eq (key x) f at) (new x, EachTwo-same R xs same)
      | inr off ↦ rw (when_ne (key x) f off) (same x, EachTwo-changed R key f change xs same new)
    ]

-- the element that changes is the first of its number
pub EachTwo-changed_at : {A : Type 0} (R : A → A → Type 0) (key : A → ℕ) (f : ℕ) (change : A → A) (xs : List A) → ((x : A) → R x x) → ((x : A) → first_by key f xs ≡ Some x → R x (change x)) →
    EachTwo R xs (changed_by key f change xs)
unfolding EachTwo changed_by first_by
EachTwo-changed_at R key f change [] same new = tt
EachTwo-changed_at R key f change (x ∷ xs) same new =
    elim (cases_eq (key x) f) [
      | inl at ↦ rw (when_eq (key x) f at) (new x (rw (when_eq (key x) f at) refl), EachTwo-same R xs same)
      | inr off ↦ rw (when_ne (key x) f off) (same x, EachTwo-changed_at R key f change xs same (λ y k. new y (rw (when_ne (key x) f off) k)))
    ]

pub EachTwo-map : {A : Type 0} (R Q : A → A → Type 0) (xs ys : List A) → ((x y : A) → R x y → Q x y) → EachTwo R xs ys → EachTwo Q xs ys
unfolding EachTwo
EachTwo-map R Q [] [] k e = tt
EachTwo-map R Q (x ∷ xs) (y ∷ ys) k e = (k x y e.0, EachTwo-map R Q xs ys k e.1)
EachTwo-map R Q [] (y ∷ ys) k e = absurd e
EachTwo-map R Q (x ∷ xs) [] k e = absurd e

pub EachTwo-times : {A : Type 0} (R : A → A → Type 0) (key : A → ℕ) (g : ℕ) (xs ys : List A) → ((x y : A) → R x y → key y ≡ key x) → EachTwo R xs ys →
    times_by key g ys ≡ times_by key g xs
unfolding EachTwo times_by
EachTwo-times R key g [] [] k e = refl
EachTwo-times R key g (x ∷ xs) (y ∷ ys) k e = rw (k x y e.0) (rw (EachTwo-times R key g xs ys k e.1))
EachTwo-times R key g [] (y ∷ ys) k e = absurd e
EachTwo-times R key g (x ∷ xs) [] k e = absurd e

pub EachTwo-each : {A : Type 0} (R : A → A → Type 0) (P Q : A → Type 0) (xs ys : List A) → ((x y : A) → R x y → P x → Q y) → EachTwo R xs ys →
    EachOf P xs → EachOf Q ys
unfolding EachTwo EachOf
EachTwo-each R P Q [] [] k e p = tt
EachTwo-each R P Q (x ∷ xs) (y ∷ ys) k e p = (k x y e.0 p.0, EachTwo-each R P Q xs ys k e.1 p.1)
EachTwo-each R P Q [] (y ∷ ys) k e p = absurd e
EachTwo-each R P Q (x ∷ xs) [] k e p = absurd e

pub EachTwo-none : {A : Type 0} (R : A → A → Type 0) (ys : List A) → EachTwo R [] ys → ys ≡ []
unfolding EachTwo
EachTwo-none R [] e = refl
EachTwo-none R (y ∷ ys) e = absurd e

-- ---- what a hand has before and after
pub record SameWork (x y : Work) : Type 0 where
  pub frame : y.frame ≡ x.frame
  pub word : y.word ≡ x.word
  pub recorded : y.recorded ≡ x.recorded

-- the same frame and word, and where that is marked as many entries
pub record LikeWork (x y : Work) : Type 0 where
  pub frame : y.frame ≡ x.frame
  pub word : y.word ≡ x.word
  pub recorded : (kind_fields x.word).unflushed ≡ true → y.recorded ≡ x.recorded

pub record SameLock (x y : Lock) : Type 0 where
  pub frame : y.frame ≡ x.frame
  pub kind : y.kind ≡ x.kind

pub record SameClaim (x y : Claimed) : Type 0 where
  pub frame : y.frame ≡ x.frame

pub recorded_in-same : (f : ℕ) (xs ys : List Work) → EachTwo SameWork xs ys → recorded_in ys f ≡ recorded_in xs f
unfolding EachTwo recorded_in first_by
recorded_in-same f [] [] e = refl
recorded_in-same f (x ∷ xs) (y ∷ ys) e =
    let here = e.0.frame in
    elim (cases_eq x.frame f) [
      | inl at ↦ rw (when_eq x.frame f at, when_eq y.frame f (here ∙ at)) (ap Some e.0.recorded)
      | inr off ↦ rw (when_ne x.frame f off, when_ne y.frame f (λ k. off (sym here ∙ k))) (recorded_in-same f xs ys e.1)
    ]
recorded_in-same f [] (y ∷ ys) e = absurd e
recorded_in-same f (x ∷ xs) [] e = absurd e
