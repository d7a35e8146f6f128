-- How a pin ends behind its acquisition, on a board that tells all words.
use Rattle.std.proofs.Common.{◌≡◌, ℕ, true, false, None, Result, Ok, IfErr, refl, sym, ap, ◌∙◌}
use Rattle.xp_words.specs.declared.place.Place.TheVariants.{Kind}
use Rattle.xp_words.specs.declared.reply.Stop.{Stop}
use Rattle.xp_board.specs.declared.step.StepKind.TheVariants as kinds
use Rattle.xp_board.specs.Told.{PortValue, is_telling, told_word}
use Rattle.step_maker.specs.Moves.{Came}
use Rattle.step_maker.proofs.Coming.{came_trans, moves_came}
use Rattle.step_maker.proofs.Telling.{came_telling, load_tells, told_there}
use Rattle.mmuext_ops.specs.Course.{PinEnds, SawKind, SetsPin, is_pinned, lost, pinned, raced, seen}
use Rattle.course_laws.specs.Courses.{IsFinal}

-- ---- the pin itself
module _ (v w : PortValue) (f level : ℕ) (telling : is_telling v ≡ true) where
  seen_here : (u : PortValue) (x : ℕ) → SawKind v u f x → told_word v (Kind f) ≡ x
  seen_here u x saw = told_there v u (Kind f) _ kinds.Look None x saw telling

  -- the exchange finds what the look found
  found_again : (u y : PortValue) (x found : ℕ) → SawKind v u f x → SetsPin u y f x found → found ≡ x
  found_again u y x found saw sets =
      sym (told_there u y (Kind f) _ _ _ found sets (came_telling v u (moves_came v u _ _ _ _ _ saw) ∙ telling))
      ∙ load_tells v u (Kind f) kinds.Look None x saw telling (Kind f) ∙ seen_here u x saw

  -- so it is not lost
  pub ends_final : (answer : Result (Unit {0}) Stop) → PinEnds v w f level answer → IfErr answer (λ e. IsFinal e)
  ends_final _ (pinned u x saw off sets) = tt
  ends_final _ (seen u x saw on gives) = tt
  ends_final _ (raced u y x found saw off sets other on gives) = tt
  ends_final _ (lost u y x found saw off sets other on gives) = absurd (other (found_again u y x found saw sets))

  -- it is done, where the frame is not pinned
  pub ends_done : is_pinned (told_word v (Kind f)) ≡ false → (answer : Result (Unit {0}) Stop) → PinEnds v w f level answer → (answer ≡ Ok tt) × Came v w
  ends_done free _ (pinned u x saw off sets) = (refl, came_trans v u w (moves_came v u _ _ _ _ _ saw) (moves_came u w _ _ _ _ _ sets))
  ends_done free _ (seen u x saw on gives) = absurd (let e = sym free ∙ ap is_pinned (seen_here u x saw) ∙ on in cc)
  ends_done free _ (raced u y x found saw off sets other on gives) = absurd (other (found_again u y x found saw sets))
  ends_done free _ (lost u y x found saw off sets other on gives) = absurd (other (found_again u y x found saw sets))
