-- What lets no frame fall back, one behind the other; and steps that change no word of which that is said.
use Rattle.std.proofs.Common.{◌≡◌, ◌≢◌, ◌⊎◌, ℕ, ◌≤◌, ◌==◌, ◌||◌, Bool, true, false, refl, sym, ap, ◌∙◌, subst, inl, inr, arith}
use Rattle.xp_words.specs.KindWords.{kind_fields}
use Rattle.xp_words.specs.Machine.{Machine}
use Rattle.xp_words.specs.declared.kind.KindWord.{KindWord}
use Rattle.xp_words.specs.declared.place.Place.{Place}
use Rattle.xp_words.specs.declared.place.Place.TheVariants.{Kind, Life, Vcpu}
use Rattle.xp_words.specs.declared.reply.Pause.{Pause}
use Rattle.xp_words.specs.declared.reply.Pause.TheVariants.{Due}
use Rattle.xp_board.specs.Readings.{kind_at}
use Rattle.step_maker.specs.Plain.{Words}
use Rattle.step_maker.specs.Twins.{Alike, IsAlikeKind}
use Rattle.table_words.specs.OldWords.{old_place}
use Rattle.table_words.specs.declared.old_words.OldWord.{OldWord}
use Rattle.table_words.specs.declared.old_words.OldWord.TheVariants.{First, Second}
use Rattle.frame_ranks.specs.Ranks.{GetsFurther, GoesForward, rank_of}

-- ---- the words of which it is said, and lives
abbrev pub is_ranked : Place → Bool
is_ranked (Kind f) = true
is_ranked (Life d) = true
is_ranked (Vcpu s k) = (k == 2) || (k == 3)
is_ranked _ = false

pub old_ranked : (s : ℕ) (which : OldWord) → is_ranked (old_place s which) ≡ true
old_ranked s First = refl
old_ranked s Second = refl

-- these are the same
abbrev pub Still : Words → Words → Type 0
Still m x = (q : Place) → is_ranked q ≡ true → x q ≡ m q

pub still_self : (m : Words) → Still m m
still_self m q ranked = refl

pub still_then : (m x y : Words) → Still m x → Still x y → Still m y
still_then m x y a b q ranked = b q ranked ∙ a q ranked

pub still_all : (m x : Words) → ((q : Place) → x q ≡ m q) → Still m x
still_all m x same q ranked = same q

-- ---- words that are alike
pub alike_ranks : (x y : ℕ) → (x ≡ y) ⊎ IsAlikeKind (kind_fields x) (kind_fields y) → rank_of (kind_fields x) ≡ rank_of (kind_fields y)
alike_ranks x y (inl e) = ap (λ w. rank_of (kind_fields w)) e
alike_ranks x y (inr a) = sym (ap rank_of a.1)

pub alike_counts : (x y : ℕ) → (x ≡ y) ⊎ IsAlikeKind (kind_fields x) (kind_fields y) → (kind_fields y).validated ≡ true → ((kind_fields x).validated ≡ true) × ((kind_fields y).number ≤ (kind_fields x).number)
alike_counts x y (inl e) live = subst (λ w. ((kind_fields w).validated ≡ true) × ((kind_fields y).number ≤ (kind_fields w).number)) (sym e) (live, omega arith)
alike_counts x y (inr a) live = absurd (let off = ap (λ (k : KindWord). k.validated) a.1 ∙ a.0 in let both = sym live ∙ off in cc)

pub alike_olds : (m x : Words) (t : ℕ) (which : OldWord) → Alike x m → x (old_place t which) ≡ m (old_place t which)
alike_olds m x t First a = a (old_place t First) (λ e. cc) (λ e. cc)
alike_olds m x t Second a = a (old_place t Second) (λ e. cc) (λ e. cc)

-- ---- no frame falls back
module _ (n : Machine) where
  pub still_forward : (m x : Words) → Still m x → GoesForward n m x
  still_forward m x s =
      record {
        ranks = λ f inside. let e = ap (λ w. rank_of (kind_fields w)) (s (Kind f) refl) in omega (arith, e);
        counts = λ f inside live. subst (λ w. ((kind_fields w).validated ≡ true) × ((kind_at m f).number ≤ (kind_fields w).number)) (sym (s (Kind f) refl)) (live, omega arith);
        olds = λ t which. s (old_place t which) (old_ranked t which);
      }

  pub forward_then : (m x y : Words) → GoesForward n m x → GoesForward n x y → GoesForward n m y
  forward_then m x y a b =
      record {
        ranks = λ f inside. let c = a.ranks f inside in let d = b.ranks f inside in omega (arith, c, d);
        counts = λ f inside live. let c = a.counts f inside live in let d = b.counts f inside c.0 in let e = c.1 in let g = d.1 in (d.0, omega (arith, e, g));
        olds = λ t which. b.olds t which ∙ a.olds t which;
      }

  pub further_behind : (m x y : Words) → GoesForward n m x → GetsFurther n x y → GetsFurther n m y
  further_behind m x y a b = record { frame = b.frame; real = b.real; higher = let c = a.ranks b.frame b.real in let d = b.higher in omega (arith, c, d) }

-- ---- and where it was the gate that paused it, a frame is further
pub record Comes (n : Machine) (p : Pause) (m x : Words) : Type 0 where
  pub forward : GoesForward n m x
  pub further : p ≡ Due → GetsFurther n m x

module _ (n : Machine) (p : Pause) where
  pub comes_behind : (m x y : Words) → GoesForward n m x → Comes n p x y → Comes n p m y
  comes_behind m x y a c = record { forward = forward_then n m x y a c.forward; further = λ due. further_behind n m x y a (c.further due) }

  -- where it was not the gate
  pub comes_so : (m x : Words) → p ≢ Due → GoesForward n m x → Comes n p m x
  comes_so m x off a = record { forward = a; further = λ due. absurd (off due) }
