-- The steps of all vCPUs are one run.
use Rattle.std.specs.Prelude.{◌≡◌, ℕ, ◌<◌, ◌==◌, ◌++◌, List, [], ◌∷◌, if◌then◌else◌}
use Rattle.xp_words.specs.Machine.{Machine}
use Rattle.xp_words.specs.Places.{sizes_of, memory}
use Rattle.xp_board.specs.declared.step.Step.{Step}
use Rattle.xp_board.specs.declared.holdings.Made.{Made}
use Rattle.xp_board.specs.declared.holdings.Holdings.{Holdings}
use Rattle.xp_board.specs.Runs.{IsOneRun, Run, State, start, place_of, word_at}
use Rattle.xp_board.specs.Sound.{SoundState, hand_of}
use Rattle.xp_board.specs.Safe.{Safe}

-- the steps of vCPU s on a run from a to b, the newest first, each with the word that stood at its place just before it
abbrev pub own_steps : (n : Machine) (s : ℕ) (a : State) (log : List (ℕ × Step)) (b : State) → Run n a log b → List Made
own_steps n s a [] b run = []
own_steps n s a (e ∷ es) b run =
    if s == e.0
    then record { step = e.1; found = word_at n run.0 (place_of n e.1) } ∷ own_steps n s a es run.0 run.1
    else own_steps n s a es run.0 run.1

-- One list of legal steps of all vCPUs leads from the opening words to these words and hands
pub record OneRun (n : Machine) (opening words : List ℕ) (hands : List Holdings) : Type 0 where
  pub one : IsOneRun n opening (λ s. (hand_of hands s).steps) (record { words = words; hands = hands })
  -- the steps of each vCPU on it are those in its hand, and each of them found the word that its hand says
  pub each : (s : ℕ) → s < (sizes_of n).vcpus → (hand_of hands s).steps ≡ own_steps n s (start n opening) one.log (record { words = words; hands = hands }) one.run
  -- it ends in a sound state
  pub sound : SoundState n words hands
  -- and so does each beginning of it, where the machine is safe too
  pub always : (newer older : List (ℕ × Step)) (a : State) → one.log ≡ newer ++ older → Run n (start n opening) older a →
      SoundState n a.words a.hands × Safe n (memory (sizes_of n) a.words) (hand_of a.hands)
