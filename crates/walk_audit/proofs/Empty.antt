-- Empty hands: nothing is counted in them, and no domain is on the way to its end.
use Rattle.std.proofs.Common.{◌≡◌, ℕ, ◌+◌, refl}
use Rattle.xp_words.specs.Machine.{Machine}
use Rattle.xp_words.specs.declared.place.Place.{Place}
use Rattle.xp_words.specs.Places.{Sizes}
use Rattle.xp_board.specs.Lists.{times, times_by}
use Rattle.xp_board.specs.Steps.{some_step}
use Rattle.xp_board.specs.LifeSteps.{HasStopped}
use Rattle.xp_board.specs.Hands.{empty, works_on, locks_on, endings_of, claims_of}
use Rattle.xp_board.specs.Recorded.{hands}
use Rattle.xp_board.specs.Sound.{DyingDomain}
use Rattle.opening_rule.proofs.Counts.{hands_none}
use Rattle.reference_recount.specs.Recounted.{no_hands}

-- ---- nothing is counted
module _ (z : Sizes) (f : ℕ) where
  pub no_credits : hands (λ u. times f u.credits) z no_hands ≡ 0
  unfolding times_by
  no_credits = hands_none (λ u. times f u.credits) z refl

  pub no_raised : hands (λ u. times f u.raised) z no_hands ≡ 0
  unfolding times_by
  no_raised = hands_none (λ u. times f u.raised) z refl

  pub no_works : hands (λ u. works_on f u.works) z no_hands ≡ 0
  unfolding times_by
  no_works = hands_none (λ u. works_on f u.works) z refl

  pub no_locks : hands (λ u. locks_on f u.locks) z no_hands ≡ 0
  unfolding times_by
  no_locks = hands_none (λ u. locks_on f u.locks) z refl

  pub no_dying : hands (λ u. endings_of f u.ending + claims_of f u.claimed) z no_hands ≡ 0
  unfolding times_by
  no_dying = hands_none (λ u. endings_of f u.ending + claims_of f u.claimed) z refl

-- ---- no domain is on the way to its end by a vCPU that made no step
unstopped : (n : Machine) (s d a : ℕ) → HasStopped n s d a empty → ⊥
unfolding some_step
unstopped n s d a h = let x = h.stored in cc

pub dying_nothing : (n : Machine) (m : Place → ℕ) (d s : ℕ) → DyingDomain n m no_hands d s
unfolding some_step
dying_nothing n m d s =
    record {
      empty = λ v k a b own few c stored l stopped found. absurd (cc);
      unallocated = λ f a h own x. absurd (unstopped n s d a h);
      unpinned = λ f a h own x. absurd (unstopped n s d a h);
      unkept = λ f a h own x. absurd (unstopped n s d a h);
      other = λ f a h x. absurd (unstopped n s d a h);
    }
