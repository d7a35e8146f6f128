-- Courses that are determined, part behind part.
use Rattle.std.proofs.Common.{◌≡◌, List, Option, refl, sym, ap, ◌∙◌, subst}
use Rattle.xp_words.specs.declared.place.Place.{Place}
use Rattle.xp_board.specs.declared.step.Act.{Act}
use Rattle.xp_board.specs.declared.step.Mark.{Mark}
use Rattle.xp_board.specs.declared.step.StepKind.{StepKind}
use Rattle.xp_board.specs.Told.{PortValue}
use Rattle.step_maker.specs.Moves.{Came, Moves}
use Rattle.step_maker.specs.Visits.{Does, Visit}
use Rattle.step_maker.proofs.Coming.{came_self, came_trans, moves_came}
use Rattle.step_maker.proofs.Visiting.{does_came}
use Rattle.determined_laws.specs.Courses.{Alike}
use Rattle.determined_laws.specs.Forks.{Tie}
use Rattle.determined_laws.proofs.Courses.{alike_does, alike_map, alike_move, alike_same, alike_then}

-- what begins at v is determined: any two that begin there fork, or come to one port with one answer
pub record IsFixed {A : Type 0} (v : PortValue) (C : PortValue → A → Type 0) : Type 0 where
  pub came : (w : PortValue) (a : A) → C w a → Came v w
  pub alike : (w x : PortValue) (a b : A) → C w a → C x b → Alike v w x (a ≡ b)

-- ---- one part behind another
-- by which port and with which answer the first part ended, and how it goes on from there
pub record Chain {A B : Type 0} (First : PortValue → A → Type 0) (Rest : PortValue → A → PortValue → B → Type 0) (w : PortValue) (b : B) : Type 0 where
  pub at : PortValue
  pub answer : A
  pub first : First at answer
  pub rest : Rest at answer w b

-- a first part that both have; what comes behind it is alike
pub behind : {v u w y x : PortValue} {A F : Type 0} {a b : A} {First : PortValue → A → Type 0} (Q : PortValue → A → Type 0) → IsFixed v First → First u a → First y b → Came u w → Came y x → Q y b → (Q u a → Alike u w x F) → Alike v w x F
behind {v} {u} {w} {y} {x} {A} {F} {a} {b} {First} Q fixed p q one two other rest =
    alike_then (fixed.came u a p) one two (fixed.alike u y a b p q) (λ e s. rest (subst (λ z. Q z a) (sym e) (subst (λ z. Q y z) (sym s) other)))

pub fixed_then : {v : PortValue} {A B : Type 0} {First : PortValue → A → Type 0} {Rest : PortValue → A → PortValue → B → Type 0} → IsFixed v First → ((u : PortValue) (a : A) → First u a → IsFixed u (Rest u a)) → IsFixed v (Chain First Rest)
fixed_then {v} {A} {B} {First} {Rest} fixed rest =
    record {
      came = λ w b p. came_trans v p.at w (fixed.came p.at p.answer p.first) ((rest p.at p.answer p.first).came w b p.rest);
      alike = λ w x b c p q.
          behind (λ y s. Rest y s x c) fixed p.first q.first ((rest p.at p.answer p.first).came w b p.rest) ((rest q.at q.answer q.first).came x c q.rest) q.rest
          (λ r. (rest p.at p.answer p.first).alike w x b c p.rest r);
    }

-- ---- the same, said otherwise
pub fixed_by : {v : PortValue} {A : Type 0} {C D : PortValue → A → Type 0} → ((w : PortValue) (a : A) → C w a → D w a) → IsFixed v D → IsFixed v C
fixed_by {v} so fixed = record { came = λ w a p. fixed.came w a (so w a p); alike = λ w x a b p q. fixed.alike w x a b (so w a p) (so x b q) }

-- it ends here, with that answer
abbrev pub Ends : {A : Type 0} → PortValue → A → PortValue → A → Type 0
Ends v c w a = (w ≡ v) × (a ≡ c)

pub fixed_ends : {A : Type 0} (v : PortValue) (c : A) → IsFixed v (Ends v c)
fixed_ends v c =
    record {
      came = λ w a p. subst (λ z. Came v z) (sym p.0) (came_self v);
      alike = λ w x a b p q. alike_same (p.0 ∙ sym q.0) (p.1 ∙ sym q.1);
    }

-- never
pub fixed_never : {A : Type 0} (v : PortValue) {C : PortValue → A → Type 0} → ((w : PortValue) (a : A) → C w a → ⊥) → IsFixed v C
fixed_never v none = record { came = λ w a p. absurd (none w a p); alike = λ w x a b p q. absurd (none w a p) }

-- ---- one way, or another, by what is known before
pub data Choice {A : Type 0} (P Q : Type 0) (C D : PortValue → A → Type 0) (w : PortValue) (a : A) : Type 0 where
  left : P → C w a → Choice P Q C D w a
  right : Q → D w a → Choice P Q C D w a

pub fixed_choice : {v : PortValue} {A : Type 0} {P Q : Type 0} {C D : PortValue → A → Type 0} → (P → Q → ⊥) → (P → IsFixed v C) → (Q → IsFixed v D) → IsFixed v (Choice P Q C D)
fixed_choice {v} {A} {P} {Q} {C} {D} off one two = record { came = came; alike = alike }
  where
    came : (w : PortValue) (a : A) → Choice P Q C D w a → Came v w
    came w a (left p c) = (one p).came w a c
    came w a (right q d) = (two q).came w a d

    alike : (w x : PortValue) (a b : A) → Choice P Q C D w a → Choice P Q C D x b → Alike v w x (a ≡ b)
    alike w x a b (left p c) (left r e) = (one p).alike w x a b c e
    alike w x a b (left p c) (right q d) = absurd (off p q)
    alike w x a b (right q d) (left p c) = absurd (off p q)
    alike w x a b (right q d) (right r e) = (two q).alike w x a b d e

-- ---- one step, and calls that are told by their lists
pub fixed_move : (v : PortValue) (p : Place) (a : Act) (kind : StepKind) (mark : Option Mark) → IsFixed v (λ w x. Moves v w p a kind mark x)
fixed_move v p a kind mark = record { came = λ w x m. moves_came v w p a kind mark x m; alike = λ w x m n one two. alike_move one two }

pub fixed_does : {A : Type 0} (v : PortValue) (P : A → List Visit → Type 0) → ((a b : A) (us vs : List Visit) → P a us → P b vs → Tie us vs (a ≡ b)) → IsFixed v (λ w a. Does v w (P a))
fixed_does v P tie = record { came = λ w a p. does_came v w (P a) p; alike = λ w x a b p q. alike_does p q (tie a b) }

-- ---- courses without an answer
pub unit_same : (a b : Unit {0}) → a ≡ b
unit_same a b = refl

abbrev pub IsSure : PortValue → (PortValue → Type 0) → Type 0
IsSure v C = IsFixed {A = Unit {0}} v (λ w t. C w)

pub sure_by : {v : PortValue} (C : PortValue → Type 0) → ((w : PortValue) → C w → Came v w) → ((w x : PortValue) → C w → C x → Alike v w x (Unit {0})) → IsSure v C
sure_by C came alike = record { came = λ w a p. came w p; alike = λ w x a b p q. alike_map (alike w x p q) (λ e. unit_same a b) }

pub sure_does : (v : PortValue) (P : List Visit → Type 0) → ((us vs : List Visit) → P us → P vs → Tie us vs (Unit {0})) → IsSure v (λ w. Does v w P)
sure_does v P tie = sure_by (λ w. Does v w P) (λ w p. does_came v w P p) (λ w x p q. alike_does p q tie)

-- whatever the answer, which is not told on
pub sure_some : {v : PortValue} {A : Type 0} {C : PortValue → A → Type 0} → IsFixed v C → IsSure v (λ w. (a : A) × C w a)
sure_some fixed = sure_by _ (λ w p. fixed.came w p.0 p.1) (λ w x p q. alike_map (fixed.alike w x p.0 q.0 p.1 q.1) (λ e. tt))

pub sure_at : {v : PortValue} {A : Type 0} {C : PortValue → A → Type 0} (a : A) → IsFixed v C → IsSure v (λ w. C w a)
sure_at {v} {A} {C} a fixed = sure_by (λ w. C w a) (λ w p. fixed.came w a p) (λ w x p q. alike_map (fixed.alike w x a a p q) (λ e. tt))

-- one behind the other
pub sure_two : {v : PortValue} {P : PortValue → Type 0} {Q : PortValue → PortValue → Type 0} → IsSure v P → ((u : PortValue) → P u → IsSure u (Q u)) → IsSure v (λ w. (u : PortValue) × P u × Q u w)
sure_two {v} {P} {Q} first rest =
    sure_by _ (λ w p. came_trans v p.0 w (first.came p.0 tt p.1) ((rest p.0 p.1).came w tt p.2))
    (λ w x p q. behind (λ y (t : Unit {0}). Q y x) first p.1 q.1 ((rest p.0 p.1).came w tt p.2) ((rest q.0 q.1).came x tt q.2) q.2 (λ r. alike_map ((rest p.0 p.1).alike w x tt tt p.2 r) (λ e. tt)))

pub sure_as : {v : PortValue} {C D : PortValue → Type 0} → ((w : PortValue) → C w → D w) → IsSure v D → IsSure v C
sure_as so fixed = fixed_by (λ w t p. so w p) fixed

-- with an answer that is fixed
pub fixed_sure : {v : PortValue} {A : Type 0} {C : PortValue → Type 0} (c : A) → IsSure v C → IsFixed v (λ w a. (a ≡ c) × C w)
fixed_sure c fixed = record { came = λ w a p. fixed.came w tt p.1; alike = λ w x a b p q. alike_map (fixed.alike w x tt tt p.1 q.1) (λ e. p.0 ∙ sym q.0) }

-- with an answer that is made of the own one
pub fixed_map : {v : PortValue} {A B : Type 0} {C : PortValue → A → Type 0} (g : A → B) → IsFixed v C → IsFixed v (λ w b. (a : A) × C w a × (b ≡ g a))
fixed_map g fixed = record { came = λ w b p. fixed.came w p.0 p.1; alike = λ w x b c p q. alike_map (fixed.alike w x p.0 q.0 p.1 q.1) (λ e. p.2 ∙ (ap g e ∙ sym q.2)) }

-- with a word beside its answer
pub fixed_pair : {v : PortValue} {A B : Type 0} {C : PortValue → B → Type 0} (c : A) → IsFixed v C → IsFixed v (λ w (z : A × B). (z.0 ≡ c) × C w z.1)
fixed_pair {v} {A} {B} {C} c fixed = record { came = λ w z p. fixed.came w z.1 p.1; alike = λ w x z y p q. alike_map (fixed.alike w x z.1 y.1 p.1 q.1) (λ e. both z y (p.0 ∙ sym q.0) e) }
  where
    both : (z y : A × B) → z.0 ≡ y.0 → z.1 ≡ y.1 → z ≡ y
    both z y e f = ap (λ k. (k, z.1)) e ∙ ap (λ k. (y.0, k)) f
