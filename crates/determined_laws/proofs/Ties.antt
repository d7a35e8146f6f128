-- Ties of lists: one part behind another, single visits.
use Rattle.std.proofs.Common.{◌≡◌, ◌≢◌, ◌⊎◌, ℕ, ◌==◌, Bool, true, false, List, [], ◌∷◌, ◌++◌, Option, Some, None, append_assoc, append-nil, refl, sym, ap, ◌∙◌, subst, inl, inr}
use Rattle.xp_words.specs.declared.place.Place.{Place}
use Rattle.xp_words.specs.declared.reply.Refusal.{Refusal}
use Rattle.xp_board.specs.declared.step.Act.{Act}
use Rattle.xp_board.specs.declared.step.Mark.{Mark}
use Rattle.xp_board.specs.declared.step.StepKind.{StepKind}
use Rattle.xp_board.proofs.PlaceTests.{equal_by}
use Rattle.xp_board.proofs.Sums.{when_eq}
use Rattle.step_maker.specs.Visits.{Visit}
use Rattle.determined_laws.specs.Forks.{Forks, Tie, visit_by}

same_by : (x y : ℕ) (b : Bool) → (x == y) ≡ b → (x ≡ y) ⊎ (x ≢ y)
same_by x y true e = inl (equal_by x y e)
same_by x y false e = inr (λ s. let t : true ≡ false = sym (when_eq x y s) ∙ e in cc)

pub same_or : (x y : ℕ) → (x ≡ y) ⊎ (x ≢ y)
same_or x y = same_by x y (x == y) refl

pub forks_newer : (us vs ps qs : List Visit) → Forks us vs → Forks (ps ++ us) (qs ++ vs)
forks_newer us vs ps qs f =
    record {
      place = f.place;
      act = f.act;
      kind = f.kind;
      mark = f.mark;
      x = f.x;
      y = f.y;
      other = f.other;
      newer = ps ++ f.newer;
      later = qs ++ f.later;
      older = f.older;
      left = ap (λ zs. ps ++ zs) f.left ∙ sym (append_assoc ps f.newer _);
      right = ap (λ zs. qs ++ zs) f.right ∙ sym (append_assoc qs f.later _);
    }

pub forks_older : (us vs ss : List Visit) → Forks us vs → Forks (us ++ ss) (vs ++ ss)
forks_older us vs ss f =
    record {
      place = f.place;
      act = f.act;
      kind = f.kind;
      mark = f.mark;
      x = f.x;
      y = f.y;
      other = f.other;
      newer = f.newer;
      later = f.later;
      older = f.older ++ ss;
      left = ap (λ zs. zs ++ ss) f.left ∙ append_assoc f.newer _ ss;
      right = ap (λ zs. zs ++ ss) f.right ∙ append_assoc f.later _ ss;
    }

-- two visits of one kind, and behind them whatever
pub fork_here : (t : StepKind) (p : Place) (a : Act) (k : Option Mark) (x y : ℕ) (ps qs : List Visit) → x ≢ y → Forks (ps ++ (visit_by t p a k x ∷ [])) (qs ++ (visit_by t p a k y ∷ []))
fork_here t p a k x y ps qs n = record { place = p; act = a; kind = t; mark = k; x = x; y = y; other = n; newer = ps; later = qs; older = []; left = refl; right = refl }

-- one part behind another
pub tie_then : (us vs ps qs : List Visit) (E F : Type 0) → Tie us vs E → (us ≡ vs → E → Tie ps qs F) → Tie (ps ++ us) (qs ++ vs) F
tie_then us vs ps qs E F (inl f) rest = inl (forks_newer us vs ps qs f)
tie_then us vs ps qs E F (inr s) rest = by (rest s.0 s.1)
  where
    by : Tie ps qs F → Tie (ps ++ us) (qs ++ vs) F
    by (inl f) = inl (subst (λ zs. Forks (ps ++ us) (qs ++ zs)) s.0 (forks_older ps qs us f))
    by (inr t) = inr (ap (λ zs. zs ++ us) t.0 ∙ ap (λ zs. qs ++ zs) s.0, t.1)

pub tie_one : (t : StepKind) (p : Place) (a : Act) (k : Option Mark) (x y : ℕ) → Tie (visit_by t p a k x ∷ []) (visit_by t p a k y ∷ []) (x ≡ y)
tie_one t p a k x y = by (same_or x y)
  where
    by : (x ≡ y) ⊎ (x ≢ y) → Tie (visit_by t p a k x ∷ []) (visit_by t p a k y ∷ []) (x ≡ y)
    by (inl e) = inr (ap (λ z. visit_by t p a k z ∷ []) e, e)
    by (inr n) = inl (fork_here t p a k x y [] [] n)

-- ---- what follows from a tie, and the same lists otherwise said
pub tie_map : (us vs : List Visit) (E F : Type 0) → Tie us vs E → (E → F) → Tie us vs F
tie_map us vs E F (inl f) g = inl f
tie_map us vs E F (inr s) g = inr (s.0, g s.1)

pub tie_lists : (us vs ps qs : List Visit) (E : Type 0) → us ≡ ps → vs ≡ qs → Tie ps qs E → Tie us vs E
tie_lists us vs ps qs E e f t = subst (λ z. Tie z vs E) (sym e) (subst (λ z. Tie ps z E) (sym f) t)

-- the one for the other
pub swapped : (us vs : List Visit) → Forks us vs → Forks vs us
swapped us vs t = record { place = t.place; act = t.act; kind = t.kind; mark = t.mark; x = t.y; y = t.x; other = λ z. t.other (sym z); newer = t.later; later = t.newer; older = t.older; left = t.right; right = t.left }

pub some_refusal : (x y : Refusal) → ◌≡◌ {A = Option Refusal} (Some x) (Some y) → x ≡ y
some_refusal x y e = cc
