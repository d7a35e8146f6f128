-- The clock, one up.
use Rattle.std.specs.Prelude.{◌≡◌, ℕ, ◌+◌, ◌<◌}
use Rattle.xp_words.specs.declared.place.Place.{Place}
use Rattle.xp_words.specs.declared.place.Place.TheVariants.{Clock}
use Rattle.xp_board.specs.declared.step.Act.{Act}
use Rattle.xp_board.specs.declared.step.Act.TheVariants.{Cas}
use Rattle.xp_board.specs.Readings.{last_clock}

-- below the last value
pub record MayTick (expected new : ℕ) : Type 0 where
  pub below : expected < last_clock
  pub left : new ≡ expected + 1

abbrev pub LegalTick : Place → Act → Type 0
LegalTick Clock (Cas expected new) = MayTick expected new
LegalTick _ _ = ⊥
