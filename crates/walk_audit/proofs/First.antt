-- The first verdict of a part of a check, put together of its parts.
use Rattle.std.proofs.Common.{◌≡◌, ℕ, ◌≤◌, Option, Some, None, inl, inr, subst, arith}
use Rattle.std.proofs.lemmas.Bool.{cases_lt}
use Rattle.xp_words.specs.Machine.{Machine}
use Rattle.xp_words.specs.declared.place.Place.{Place}
use Rattle.walk_audit.specs.Order.{NoneBreaks, IsFirst, FirstVerdict, position}
use Rattle.walk_audit.specs.declared.verdict.Verdict.{Verdict}

module _ (n : Machine) (m : Place → ℕ) (c : ℕ) where
  -- ---- one part behind another
  pub none_joined : (a b d : ℕ) → NoneBreaks n m c a b → NoneBreaks n m c b d → NoneBreaks n m c a d
  none_joined a b d h k =
      record {
        none = λ u w x. elim (cases_lt (position u) b) [
          | inl l ↦ h.none u (record { check = w.check; from = w.from; below = l }) x
          | inr l ↦ k.none u (record { check = w.check; from = l; below = w.below }) x
        ];
      }

  pub none_narrowed : (a b d e : ℕ) → a ≤ b → d ≤ e → NoneBreaks n m c a e → NoneBreaks n m c b d
  none_narrowed a b d e l k h = record { none = λ u w x. h.none u (record { check = w.check; from = (let f = w.from in omega arith); below = (let f = w.below in omega arith) }) x }

  -- nothing stands between a place and itself
  pub none_empty : (a : ℕ) → NoneBreaks n m c a a
  none_empty a = record { none = λ u w x. (let f = w.from in let g = w.below in absurd (omega arith)) }

  -- it may be looked for in more
  pub first_widened : (a b d e : ℕ) (v : Verdict) → a ≤ b → NoneBreaks n m c a b → d ≤ e → IsFirst n m c b d v → IsFirst n m c a e v
  first_widened a b d e v o h l x =
      record {
        breaks = x.breaks;
        within = record { check = x.within.check; from = (let f = x.within.from in let g = x.within.below in omega arith); below = (let f = x.within.below in omega arith) };
        before = none_joined a b (position v) h x.before;
      }

-- ---- the same, from what the parts of a check ensure
module _ (n : Machine) (m : Place → ℕ) (c a b d : ℕ) where
  -- one part more gave nothing
  pub none_more : (x : Option Verdict) → NoneBreaks n m c a b → FirstVerdict n m c b d x → x ≡ None → NoneBreaks n m c a d
  none_more x h f e = none_joined n m c a b d h (subst (λ y. FirstVerdict n m c b d y) e f)

  -- it gave something
  pub first_more : (e : ℕ) (v : Verdict) → a ≤ b → d ≤ e → NoneBreaks n m c a b → FirstVerdict n m c b d (Some v) → FirstVerdict n m c a e (Some v)
  first_more e v l k h f = first_widened n m c a b d e v l h k f

-- a part of a check, with nothing before it and nothing behind
pub first_extended : (n : Machine) (m : Place → ℕ) (c a b d e : ℕ) (x : Option Verdict) → a ≤ b → d ≤ e → NoneBreaks n m c a b → FirstVerdict n m c b d x → NoneBreaks n m c d e → FirstVerdict n m c a e x
first_extended n m c a b d e None l u h f k = none_joined n m c a d e (none_joined n m c a b d h f) k
first_extended n m c a b d e (Some v) l u h f k = first_widened n m c a b d e v l h u f
