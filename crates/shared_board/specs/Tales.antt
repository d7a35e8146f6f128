-- The story of a board, step by step.
use Rattle.std.specs.Prelude.{ℕ, ◌∷◌}
use Rattle.xp_words.specs.Machine.{Machine}
use Rattle.xp_board.specs.declared.step.Step.{Step}
use Rattle.xp_board.specs.Runs.{next}
use Rattle.xp_board.specs.Told.{Story}
use Rattle.shared_board.specs.Board.{state_of}
use Rattle.shared_board.specs.declared.tale.Next.{Next}

-- after one more step, of vCPU s
abbrev pub story_after : Machine → ℕ → Step → Story → Story
story_after n s x a = record { opening = a.opening; log = (s, x) ∷ a.log; words = (next n (state_of a) s x).words; hands = (next n (state_of a) s x).hands }

abbrev pub told_on : Story → Next → Story
told_on a x = story_after x.layout.now x.vcpu x.step a
