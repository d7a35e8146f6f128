-- What the steps of a piece found: the only thing, beside its request, that the cause of an answer may look at.
use Rattle.std.specs.Prelude.{◌≡◌, ℕ}
use Rattle.xp_words.specs.declared.place.Place.{Place}
use Rattle.xp_board.specs.declared.step.Act.{Act}
use Rattle.xp_board.specs.declared.holdings.Holdings.{Holdings}
use Rattle.step_maker.specs.Moves.{Moment}

-- which moments there were
abbrev pub Finding : Type 1
Finding = Moment → Type 0

-- one of the steps found that word there
pub record FoundAt (F : Finding) (p : Place) (w : ℕ) : Type 0 where
  pub moment : Moment
  pub was : F moment
  pub place : moment.place ≡ p
  pub word : moment.found ≡ w

-- one of the steps was that act there, and found that word
pub record Did (F : Finding) (p : Place) (a : Act) (w : ℕ) : Type 0 where
  pub moment : Moment
  pub was : F moment
  pub place : moment.place ≡ p
  pub act : moment.act ≡ a
  pub word : moment.found ≡ w

-- one of the steps found that word there, while the vCPU held h
pub record FoundWith (F : Finding) (p : Place) (w : ℕ) (h : Holdings) : Type 0 where
  pub moment : Moment
  pub was : F moment
  pub place : moment.place ≡ p
  pub word : moment.found ≡ w
  pub hand : moment.hand ≡ h
