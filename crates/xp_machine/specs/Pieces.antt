-- Steps of one vCPU as a part of the run of a board.
use Rattle.std.specs.Prelude.{◌≡◌, ℕ, List, [], ◌∷◌, ◌++◌, map}
use Rattle.xp_words.specs.Machine.{Machine}
use Rattle.xp_board.specs.declared.step.Step.{Step}
use Rattle.xp_board.specs.declared.holdings.Made.{Made}
use Rattle.xp_board.specs.Hands.{IsEmptyHand}
use Rattle.xp_board.specs.Runs as runs
use Rattle.xp_board.specs.Sound.{hand_of}
use Rattle.xp_board.specs.Told.{Story}
use Rattle.shared_board.specs.Board.{state_of}

-- Steps of vCPU v, the newest first, lead from state a to state b. Each is legal by what the vCPU holds at that
-- moment, and finds the word that stands there.
abbrev pub Piece : Machine → ℕ → runs.State → List Made → runs.State → Type 0
Piece n v a [] b = b ≡ a
Piece n v a (x ∷ xs) b =
    (c : runs.State) × Piece n v a xs c × runs.StepsTo n c v x.step b × (x.found ≡ runs.word_at n c (runs.place_of n x.step))

-- the steps as a part of a run
abbrev pub log_by : ℕ → List Made → List (ℕ × Step)
log_by v made = map (λ x. (v, x.step)) made

-- these steps of vCPU v lead from a to b, are what the list of steps has more, and leave the vCPU's hand empty
pub record Leads (n : Machine) (v : ℕ) (a : Story) (made : List Made) (b : Story) : Type 0 where
  pub piece : Piece n v (state_of a) made (state_of b)
  pub log : b.log ≡ log_by v made ++ a.log
  pub empty : IsEmptyHand (hand_of b.hands v)
