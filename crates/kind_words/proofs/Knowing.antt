-- What a step on a kind word tells of a frame to which the newest typed reference in hand is.
use Rattle.std.proofs.Common.{◌≡◌, ℕ, ◌≤◌, ◌==◌, ◌&&◌, Bool, true, List, ◌∷◌, length, Option, Some, IsTrue, refl, sym, ap, ◌∙◌, subst}
use Rattle.std.proofs.lemmas.Bool.{or_left}
use Rattle.xp_words.specs.Places.{sizes_of}
use Rattle.xp_words.specs.declared.kind.PageType.{PageType}
use Rattle.xp_words.specs.declared.place.Place.TheVariants.{Kind}
use Rattle.xp_words.proofs.PlaceLaws.{place_back}
use Rattle.xp_board.specs.declared.holdings.Liveness.TheVariants as lives
use Rattle.xp_board.specs.declared.holdings.TypedReference.{TypedReference}
use Rattle.xp_board.specs.declared.step.Act.{Act}
use Rattle.xp_board.specs.declared.step.Mark.{Mark}
use Rattle.xp_board.specs.declared.step.StepKind.{StepKind}
use Rattle.xp_board.specs.Acts.{left_by}
use Rattle.xp_board.specs.Knowledge.{knows_live, knows_partial, passes, tells_live, tells_partial}
use Rattle.xp_board.specs.Lists.{some_of}
use Rattle.xp_board.specs.Readings.{is_live_as, is_partial_as}
use Rattle.xp_board.specs.Steps.{last_since}
use Rattle.xp_board.specs.Told.{PortValue}
use Rattle.xp_board.proofs.MoreSteps.{last_since-here}
use Rattle.xp_board.proofs.Sums.{when_eq}
use Rattle.step_maker.specs.Moves.{Moves, step_at}
use Rattle.step_maker.proofs.Noting.{made_now, moves_since, moves_steps}

some_first : (f : ℕ) (e : TypedReference) (test : TypedReference → Bool) (xs ys : List TypedReference) → ys ≡ e ∷ xs → e.frame ≡ f → test e ≡ true → IsTrue (some_of (λ y. (y.frame == f) && test y) ys)
unfolding some_of
some_first f e test xs ys newest at tells = rw (newest, when_eq e.frame f at, tells) refl

module _ (v w : PortValue) (f : ℕ) (t : PageType) (a : Act) (kind : StepKind) (mark : Option Mark) (found : ℕ) (m : Moves v w (Kind f) a kind mark found)
    (e : TypedReference) (xs : List TypedReference) (n : ℕ) (newest : w.holdings.typed ≡ e ∷ xs) (at : e.frame ≡ f) (since : e.live ≡ lives.Since n) (late : n ≤ length v.holdings.steps) where
  -- it was found or left live with that type
  pub live_by_step : is_live_as t (left_by a found) ≡ true → IsTrue (knows_live (sizes_of v.post.machine) f t w.holdings)
  unfolding knows_live
  live_by_step live =
      or_left _ _
      (some_first f e (λ y. tells_live (sizes_of v.post.machine) w.holdings.steps f t y.kind y.live) xs w.holdings.typed newest at
      (subst (λ y. tells_live (sizes_of v.post.machine) w.holdings.steps f t e.kind y ≡ true) (sym since) (moves_since v w (Kind f) a kind mark found m n (is_live_as t) late live)))

  last_is : last_since (sizes_of v.post.machine) n (Kind f) w.holdings.steps ≡ Some (left_by a found)
  last_is =
      ap (last_since (sizes_of v.post.machine) n (Kind f)) (moves_steps v w (Kind f) a kind mark found m)
      ∙ last_since-here (sizes_of v.post.machine) n (Kind f) (made_now (step_at v.post.machine (Kind f) a kind mark) found) v.holdings.steps late (place_back (sizes_of v.post.machine) (Kind f) m.may.place)

  -- it was found or left partial with that type
  pub partial_by_step : is_partial_as t (left_by a found) ≡ true → IsTrue (knows_partial (sizes_of v.post.machine) f t w.holdings)
  unfolding knows_partial
  partial_by_step partial =
      some_first f e (λ y. tells_partial (sizes_of v.post.machine) w.holdings.steps f t y.live) xs w.holdings.typed newest at
      (subst (λ y. tells_partial (sizes_of v.post.machine) w.holdings.steps f t y ≡ true) (sym since) (ap (passes (is_partial_as t)) last_is ∙ partial))
