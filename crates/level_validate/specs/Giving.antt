-- Typed references that are given back beside another one.
use Rattle.std.specs.Prelude.{◌≡◌, ℕ, ◌<◌, ◌≤◌}
use Rattle.xp_words.specs.Machine.{Machine}
use Rattle.xp_words.specs.Places.{sizes_of}
use Rattle.xp_words.specs.declared.place.Place.{Place}
use Rattle.xp_board.specs.declared.holdings.Holdings.{Holdings}
use Rattle.xp_board.specs.KindSteps.{MayDrop}
use Rattle.xp_board.specs.Recorded.{named_typed}
use Rattle.xp_board.specs.Sound.{Sound}

-- in any sound state where the vCPU holds this, two or more hold the frame's type
pub record MayGiveBack (n : Machine) (s f : ℕ) (h : Holdings) : Type 0 where
  pub drops : MayDrop n f h
  pub shared : (words : Place → ℕ) (hands : ℕ → Holdings) → s < (sizes_of n).vcpus → Sound n words hands → hands s ≡ h → 2 ≤ named_typed (sizes_of n) words hands f
