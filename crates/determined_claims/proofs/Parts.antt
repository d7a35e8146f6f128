-- Single visits, lists in other groups, and one way or another.
use Rattle.std.proofs.Common.{◌≡◌, ◌⊎◌, ℕ, List, ◌++◌, append_assoc, refl, sym, ap, ◌∙◌, inl, inr}
use Rattle.xp_words.specs.declared.place.Place.{Place}
use Rattle.xp_board.specs.declared.step.Act.{Act}
use Rattle.step_maker.specs.Visits.{Only, Then, Visit, visit}
use Rattle.determined_laws.specs.Forks.{Tie}
use Rattle.determined_laws.proofs.Ties.{tie_lists, tie_map, tie_one}

-- ---- single visits
pub only_tie : (p : Place) (a : Act) (x y : ℕ) (us vs : List Visit) → Only (visit p a x) us → Only (visit p a y) vs → Tie us vs (x ≡ y)
only_tie p a x y us vs s t = tie_lists us vs _ _ _ s t (tie_one _ p a _ x y)

-- whatever was found
pub some_tie : (p : Place) (a : Act) (us vs : List Visit) → (x : ℕ) × Only (visit p a x) us → (x : ℕ) × Only (visit p a x) vs → Tie us vs (Unit {0})
some_tie p a us vs s t = tie_map us vs _ _ (only_tie p a s.0 t.0 us vs s.1 t.1) (λ e. tt)

-- ---- three parts
pub joined_last : {P Q R : List Visit → Type 0} {vs : List Visit} → Then (Then P Q) R vs → Then P (Then Q R) vs
joined_last t = record {
  before = t.first.before;
  after = t.after ++ t.first.after;
  first = t.first.first;
  next = record { before = t.first.after; after = t.after; first = t.first.next; next = t.next; list = refl };
  list = t.list ∙ (ap (λ z. t.after ++ z) t.first.list ∙ sym (append_assoc t.after t.first.after t.first.before));
}

pub joined_first : {P Q R : List Visit → Type 0} {vs : List Visit} → Then P (Then Q R) vs → Then (Then P Q) R vs
joined_first t = record {
  before = t.next.before ++ t.before;
  after = t.next.after;
  first = record { before = t.before; after = t.next.before; first = t.first; next = t.next.first; list = refl };
  next = t.next.next;
  list = t.list ∙ (ap (λ z. z ++ t.before) t.next.list ∙ append_assoc t.next.after t.next.before t.before);
}

-- ---- one way or another, by what is known before
abbrev pub Either : {B : Type 0} → Type 0 → (B → List Visit → Type 0) → Type 0 → (B → List Visit → Type 0) → B → List Visit → Type 0
Either P C Q D b vs = (P × C b vs) ⊎ (Q × D b vs)

pub either_tie : {B P Q : Type 0} {C D : B → List Visit → Type 0} → (P → Q → ⊥) → ((b d : B) (us vs : List Visit) → C b us → C d vs → Tie us vs (b ≡ d)) → ((b d : B) (us vs : List Visit) → D b us → D d vs → Tie us vs (b ≡ d)) →
    (b d : B) (us vs : List Visit) → Either P C Q D b us → Either P C Q D d vs → Tie us vs (b ≡ d)
either_tie off one two b d us vs (inl p) (inl q) = one b d us vs p.1 q.1
either_tie off one two b d us vs (inl p) (inr q) = absurd (off p.0 q.0)
either_tie off one two b d us vs (inr p) (inl q) = absurd (off q.0 p.0)
either_tie off one two b d us vs (inr p) (inr q) = two b d us vs p.1 q.1
