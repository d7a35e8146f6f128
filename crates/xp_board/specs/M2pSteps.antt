-- Steps on a frame's machine-to-physical word.
use Rattle.std.specs.Prelude.{ℕ, ◌<◌, ◌⊎◌}
use Rattle.xp_words.specs.declared.place.Place.{Place}
use Rattle.xp_words.specs.declared.place.Place.TheVariants.{M2p}
use Rattle.xp_board.specs.declared.step.Act.{Act}
use Rattle.xp_board.specs.declared.step.Act.TheVariants.{Store}
use Rattle.xp_board.specs.declared.holdings.Holdings.{Holdings}
use Rattle.xp_board.specs.Hands.{hand, claims_of}

-- a reference to the frame is in hand, or it was taken from the free ones
pub record MayMap (f : ℕ) (h : Holdings) : Type 0 where
  pub in_hand : (0 < hand f h) ⊎ (0 < claims_of f h.claimed)

abbrev pub LegalM2p : Holdings → Place → Act → Type 0
LegalM2p h (M2p f) (Store new) = MayMap f h
LegalM2p h _ _ = ⊥
