-- The own walk sets accessed and dirty bits.
use Rattle.std.specs.Prelude.{◌≡◌, ℕ, ◌==◌, Bool, true, false, Option, Some, None}
use Rattle.xp_words.specs.Machine.{Machine}
use Rattle.xp_words.specs.declared.place.Place.{Place}
use Rattle.xp_words.specs.declared.place.Place.TheVariants.{Cell}
use Rattle.xp_board.specs.declared.step.Act.{Act}
use Rattle.xp_board.specs.declared.step.Act.TheVariants.{Cas}
use Rattle.xp_board.specs.declared.holdings.Walk.{Walk}
use Rattle.xp_board.specs.declared.holdings.Holdings.{Holdings}
use Rattle.xp_board.specs.FillSteps.{touched, descended}

-- from the entry that the walk loaded last to that entry with the bits that the walk needs
pub record MayTouch (f i expected new : ℕ) (walk : Walk) (h : Holdings) : Type 0 where
  pub flying : h.walk ≡ Some walk
  pub needed : walk.touching ≡ Some (record { frame = f; index = i; word = expected })
  pub left : new ≡ touched walk expected

abbrev pub LegalTouch : Holdings → Place → Act → Type 0
LegalTouch h (Cell f i) (Cas expected new) = (walk : Walk) × MayTouch f i expected new walk h
LegalTouch h _ _ = ⊥

-- a lost exchange ends the walk
abbrev pub touched_by : Machine → Bool → ℕ → Option Walk → Holdings → Holdings
touched_by m true new (Some walk) h = descended m walk new h
touched_by m false new (Some walk) h = record h { walk = None }
touched_by m met new None h = h

abbrev pub after_touch : Machine → Place → Act → ℕ → Holdings → Holdings
after_touch m (Cell f i) (Cas expected new) w h = touched_by m (w == expected) new h.walk h
after_touch m _ _ w h = h
