-- Translations that lead to frames of the machine.
use Rattle.std.specs.Prelude.{ℕ, ◌<◌, List}
use Rattle.xp_board.specs.declared.step.Item.{Item}
use Rattle.xp_board.specs.Lists.{EachOf}

abbrev pub LeadInside : ℕ → List Item → Type 0
LeadInside frames xs = EachOf (λ x. x.frame < frames) xs
