-- Lemmas that several crates above cite.
use Rattle.std.proofs.Common.{◌≡◌, ℕ, [], ◌∷◌, refl}
use Rattle.frame_words.specs.Cells.{IsApart}
use Rattle.step_maker.specs.Answers.{Writes, deeds_by}
use Rattle.xp_board.specs.declared.holdings.Holdings.{Holdings}
use Rattle.xp_board.specs.declared.step.Act.TheVariants.{Store}
use Rattle.xp_board.specs.declared.step.StepKind.TheVariants as kinds
use Rattle.xp_words.specs.declared.place.Place.TheVariants.{Cell}

pub store_deed : (f i word found : ℕ) (h : Holdings) → IsApart f h → deeds_by (Cell f i) (Store word) kinds.Cell found h ≡ Writes f i word ∷ []
store_deed f i word found h apart = rw (apart.locks, apart.works, apart.claimed) refl
