-- Lemmas that several crates above cite.
use Rattle.std.proofs.Common.{◌≡◌, ℕ, Bool, true, false, [], refl}
use Rattle.step_maker.specs.Answers.{pin_deed}

-- a mark that goes off is no pin
pub pin_none : (f : ℕ) (b : Bool) → pin_deed f b b ≡ []
pin_none f true = refl
pin_none f false = refl
