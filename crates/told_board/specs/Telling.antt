-- The steps of a run with the words that they found.
use Rattle.std.specs.Prelude.{ℕ, List, [], ◌∷◌, ◌++◌, slice_index, slice_set}
use Rattle.xp_board.specs.declared.step.Step.{Step}
use Rattle.xp_board.specs.Acts.{left_by}
use Rattle.step_text.specs.declared.told.ToldStep.{ToldStep}

-- a list of words after one step
abbrev pub words_by : Step → List ℕ → List ℕ
words_by x words = slice_set words x.place (left_by x.act (slice_index words x.place))

-- the words after these steps, each with its vCPU and the newest first
unfoldable pub words_after : List ℕ → List (ℕ × Step) → List ℕ
words_after opening [] = opening
words_after opening (e ∷ es) = words_by e.1 (words_after opening es)

-- a step of a vCPU that finds what stands in these words
abbrev pub told_in : List ℕ → ℕ × Step → ToldStep
told_in words e = record { vcpu = e.0; step = e.1; found = slice_index words e.1.place }

-- these steps in the order in which they were made, each with the word that stood at its place behind the older ones
unfoldable pub told_steps : List ℕ → List (ℕ × Step) → List ToldStep
told_steps opening [] = []
told_steps opening (e ∷ es) = told_steps opening es ++ told_in (words_after opening es) e ∷ []
