-- One step at a word that is given by name: when it may be made, and what it leaves.
use Rattle.std.specs.Prelude.{◌≡◌, List, [], ◌∷◌, ℕ, Option, Result, Ok, Err}
use Rattle.xp_words.specs.Machine.{Machine}
use Rattle.xp_words.specs.declared.place.Place.{Place}
use Rattle.xp_words.specs.Places.{number, run_of, sizes_of}
use Rattle.xp_board.specs.declared.step.Act.{Act}
use Rattle.xp_board.specs.declared.step.Mark.{Mark}
use Rattle.xp_board.specs.declared.step.Step.{Step}
use Rattle.xp_board.specs.declared.step.StepKind.{StepKind}
use Rattle.xp_board.specs.declared.holdings.Holdings.{Holdings}
use Rattle.xp_board.specs.After.{noted, after_move}
use Rattle.xp_board.specs.Legal.{LegalMove}
use Rattle.xp_board.specs.Told.{PortValue, IsTold, Finds, own_run, tells}

-- the step at a named word
abbrev pub step_at : Machine → Place → Act → StepKind → Option Mark → Step
step_at n p a kind mark = record { place = number (sizes_of n) p; act = a; kind = kind; mark = mark }

-- the hand after it
abbrev pub hand_at : PortValue → Place → Act → StepKind → Option Mark → ℕ → Holdings
hand_at v p a kind mark found =
    noted (step_at v.post.machine p a kind mark) found (after_move v.post.machine v.post.vcpu v.holdings p a kind mark found)

-- the port after it
abbrev pub moved : PortValue → Place → Act → StepKind → Option Mark → ℕ → PortValue
moved v p a kind mark found =
    record {
      post = v.post;
      holdings = hand_at v p a kind mark found;
      told = tells v.post.vcpu (step_at v.post.machine p a kind mark) found (hand_at v p a kind mark found) v.told;
    }

-- the port may make that step, by its own hand alone
abbrev pub May : PortValue → Place → Act → StepKind → Option Mark → Type 0
May v p a kind mark = LegalMove v.post.machine v.post.vcpu v.holdings p a kind mark

-- from v to w the port made that one step, which found this word
pub record Moves (v w : PortValue) (p : Place) (a : Act) (kind : StepKind) (mark : Option Mark) (found : ℕ) : Type 0 where
  pub may : May v p a kind mark
  pub finds : Finds v.post.machine v.post.vcpu v.holdings p found
  pub own : p ≡ run_of v.post.vcpu → found ≡ own_run v
  pub told : IsTold v.post.machine v.told p found
  pub to : w ≡ moved v p a kind mark found

-- ---- steps in order
-- one step: what it did where, the word that it found, and what the vCPU held before it
pub record Moment : Type 0 where
  pub place : Place
  pub act : Act
  pub kind : StepKind
  pub mark : Option Mark
  pub found : ℕ
  pub hand : Holdings

-- from v to w the port made that one step
pub record MovesBy (v w : PortValue) (m : Moment) : Type 0 where
  pub moves : Moves v w m.place m.act m.kind m.mark m.found
  pub hand : m.hand ≡ v.holdings

-- from v to w it made these steps, the newest first
abbrev pub Ran : PortValue → List Moment → PortValue → Type 0
Ran v [] w = w ≡ v
Ran v (m ∷ ms) w = (u : PortValue) × Ran v ms u × MovesBy u w m

unfoldable pub Came : PortValue → PortValue → Type 0
Came v w = (ms : List Moment) × Ran v ms w

-- from v to w it made steps of which this is one
pub record Met (v w : PortValue) (m : Moment) : Type 0 where
  pub from : PortValue
  pub to : PortValue
  pub before : Came v from
  pub moved : MovesBy from to m
  pub after : Came to w

-- the word that an exchange found
abbrev pub found_by : ℕ → Result (Unit {0}) ℕ → ℕ
found_by expected (Ok done) = expected
found_by expected (Err found) = found
