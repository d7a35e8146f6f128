-- How a list of the hand moves at one number: an element comes in, goes out, or changes.
use Rattle.std.proofs.Common.{◌≡◌, ◌≢◌, ℕ, ◌+◌, ◌<◌, if◌then◌else◌, Bool, true, false, List, ◌∷◌, refl, sym, ◌∙◌, ap, arith}
use Rattle.xp_words.specs.RefWords.{bit}
use Rattle.xp_board.specs.Lists.{times_by, without_by, changed_by}
use Rattle.xp_board.specs.declared.holdings.Work.{Work}
use Rattle.xp_board.specs.Recorded.{recorded_in, recorded_number}
use Rattle.xp_board.proofs.Sums.{one_at-same}
use Rattle.xp_board.proofs.ListCounts.{times_by-without, times_by-cons_here, times_by-cons_other, times_by-without_other, first_by-cons_other, first_by-without_other}
use Rattle.xp_board.proofs.ListChanges.{first_by-changed_other}

module _ {A : Type 0} (key : A → ℕ) (f : ℕ) (xs ys : List A) where
  pub kept_other : ys ≡ xs → (g : ℕ) → g ≢ f → times_by key g ys ≡ times_by key g xs
  kept_other e g off = rw e refl

  pub cons_other : (x : A) → key x ≡ f → ys ≡ x ∷ xs → (g : ℕ) → g ≢ f → times_by key g ys ≡ times_by key g xs
  cons_other x k e g off = rw e (times_by-cons_other key g x xs (λ i. off (sym i ∙ k)))

  pub out_other : ys ≡ without_by key f xs → (g : ℕ) → g ≢ f → times_by key g ys ≡ times_by key g xs
  out_other e g off = rw e (times_by-without_other key g f xs off)

  pub swap_other : (x : A) → key x ≡ f → ys ≡ x ∷ without_by key f xs → (g : ℕ) → g ≢ f → times_by key g ys ≡ times_by key g xs
  swap_other x k e g off = rw e (times_by-cons_other key g x (without_by key f xs) (λ i. off (sym i ∙ k)) ∙ times_by-without_other key g f xs off)

  pub kept_here : ys ≡ xs → times_by key f ys ≡ times_by key f xs
  kept_here e = rw e refl

  pub cons_here : (x : A) → key x ≡ f → ys ≡ x ∷ xs → times_by key f ys ≡ 1 + times_by key f xs
  cons_here x k e = rw e (times_by-cons_here key f x xs k)

  pub out_here : ys ≡ without_by key f xs → 0 < times_by key f xs → times_by key f ys + 1 ≡ times_by key f xs
  out_here e some =
      let one = one_at-same f in
      let out = times_by-without key f f xs some in
      let same = ap (times_by key f) e in
      omega arith

  pub swap_here : (x : A) → key x ≡ f → ys ≡ x ∷ without_by key f xs → 0 < times_by key f xs → times_by key f ys ≡ times_by key f xs
  swap_here x k e some =
      let one = one_at-same f in
      let out = times_by-without key f f xs some in
      let same = ap (times_by key f) e ∙ times_by-cons_here key f x (without_by key f xs) k in
      omega arith

  -- an element that comes in where the test is passed
  pub maybe_other : (t : Bool) (x : A) → key x ≡ f → ys ≡ (if t then (x ∷ xs) else xs) → (g : ℕ) → g ≢ f → times_by key g ys ≡ times_by key g xs
  maybe_other true x k e g off = cons_other x k e g off
  maybe_other false x k e g off = kept_other e g off

  pub maybe_here : (t : Bool) (x : A) → key x ≡ f → ys ≡ (if t then (x ∷ xs) else xs) → times_by key f ys ≡ bit t + times_by key f xs
  maybe_here true x k e = cons_here x k e
  maybe_here false x k e = let i = kept_here e in omega arith

  -- or goes out
  pub maybe_out_other : (t : Bool) → ys ≡ (if t then without_by key f xs else xs) → (g : ℕ) → g ≢ f → times_by key g ys ≡ times_by key g xs
  maybe_out_other true e g off = out_other e g off
  maybe_out_other false e g off = kept_other e g off

  pub maybe_out_here : (t : Bool) → ys ≡ (if t then without_by key f xs else xs) → (t ≡ true → 0 < times_by key f xs) → times_by key f ys + bit t ≡ times_by key f xs
  maybe_out_here true e some = out_here e (some refl)
  maybe_out_here false e some = let i = kept_here e in omega arith

-- ---- what the works record of other frames
module _ (f : ℕ) (xs ys : List Work) where
  pub recorded_kept : ys ≡ xs → (g : ℕ) → g ≢ f → recorded_in ys g ≡ recorded_in xs g
  recorded_kept e g off = rw e refl

  pub recorded_cons : (x : Work) → x.frame ≡ f → ys ≡ x ∷ xs → (g : ℕ) → g ≢ f → recorded_in ys g ≡ recorded_in xs g
  unfolding recorded_in
  recorded_cons x k e g off = rw e (ap recorded_number (first_by-cons_other (λ y. y.frame) g x xs (λ i. off (sym i ∙ k))))

  pub recorded_out : ys ≡ without_by (λ y. y.frame) f xs → (g : ℕ) → g ≢ f → recorded_in ys g ≡ recorded_in xs g
  unfolding recorded_in
  recorded_out e g off = rw e (ap recorded_number (first_by-without_other (λ y. y.frame) g f xs off))

  pub recorded_changed : (change : Work → Work) → ((y : Work) → (change y).frame ≡ y.frame) → ys ≡ changed_by (λ y. y.frame) f change xs → (g : ℕ) → g ≢ f → recorded_in ys g ≡ recorded_in xs g
  unfolding recorded_in
  recorded_changed change k e g off = rw e (ap recorded_number (first_by-changed_other (λ y. y.frame) g f change xs k off))
