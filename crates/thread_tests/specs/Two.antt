-- Two vCPUs whose lists of steps are one run.
use Rattle.std.specs.Prelude.{◌≡◌, ℕ, ◌∷◌, [], List, None}
use Rattle.xp_words.specs.Machine.{Machine}
use Rattle.xp_board.specs.declared.holdings.Holdings.{Holdings}
use Rattle.thread_board.specs.OneRun.{OneRun}
use Rattle.thread_board.specs.Values.{BoardValue, PassValue, IsPassOf}

abbrev pub IsRunOfTwo : Machine → List ℕ → List ℕ → Type 0
IsRunOfTwo n opening words = (first : Holdings) × (second : Holdings) × OneRun n opening words (first ∷ second ∷ [])

-- a pass of that board, whose vCPU has no walk under way
pub record IsIdlePass (b : BoardValue) (p : PassValue) : Type 0 where
  pub pass : IsPassOf b p
  pub no_walk : p.holdings.walk ≡ None
