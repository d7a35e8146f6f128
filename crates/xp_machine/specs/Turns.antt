-- Turns and stops of vCPUs as runs of legal steps, each a piece of the board's list of steps.
use Rattle.std.specs.Prelude.{◌≡◌, ℕ, Bool, true, false, List, [], ◌∷◌, ◌++◌, slice_get, slice_set, Option, Some, None}
use Rattle.std.specs.List.{range_with_len}
use Rattle.xp_words.specs.Machine.{Machine}
use Rattle.xp_words.specs.Places.{sizes_of}
use Rattle.xp_board.specs.declared.holdings.Made.{Made}
use Rattle.xp_board.specs.Told.{PortValue, Story}
use Rattle.shared_board.specs.Board.{port_value}
use Rattle.vcpu_turn.specs.Unhindered.{IsSparedIn}
use Rattle.vcpu_runners.specs.Turns.{Processing, TurnEnd, is_due}
use Rattle.vcpu_runners.specs.Turns as turning
use Rattle.xp_machine.specs.Pieces.{Leads}
use Rattle.xp_preempt.specs.Gates.{Consulted, Gate, ends_yes}

-- the list of steps, the words and the hands of the board; how far the vCPUs have come; and the gate of each
pub record Stage : Type 0 where
  pub board : Story
  pub cpus : List Processing
  pub gates : List Gate

abbrev pub stage : Story → List Processing → List Gate → Stage
stage a cpus gates = record { board = a; cpus = cpus; gates = gates }

-- the port of that vCPU on a board of one thread that tells this
abbrev pub port_on : Machine → ℕ → Story → PortValue
port_on n vcpu a = port_value (record { machine = n; story = a }) vcpu

-- vCPU v makes a turn by steps that lead from one stage to the other, in which its own gate gives these answers.
pub record MakesStagedTurn (n : Machine) (v : ℕ) (c : Processing) (s s' : Stage) : Type 0 where
  pub gate : Gate
  pub asked : Gate
  pub own : slice_get s.gates v ≡ Some gate
  pub after : Processing
  pub end : TurnEnd
  pub made : List Made
  pub leads : Leads n v s.board made s'.board
  pub answers : List Bool
  pub turn : turning.IsTurn c after end (port_on n v s.board) (port_on n v s'.board) answers
  pub consulted : Consulted gate asked answers
  pub due : is_due end ≡ true → ends_yes answers ≡ true
  pub unhindered : IsSparedIn n (turning.next_of c) end
  pub cpus : s'.cpus ≡ slice_set s.cpus v after
  pub gates : s'.gates ≡ slice_set s.gates v asked

-- vCPU v went on with its list no further than so far
pub record StaysWithin (v : ℕ) (c : Processing) (s s' : Stage) (most : ℕ) : Type 0 where
  pub after : Processing
  pub end : TurnEnd
  pub cpus : s'.cpus ≡ slice_set s.cpus v after
  pub within : turning.GoesNoFurther c after end most

-- vCPU v stops between its turns, by one step, and no gate is asked
pub record MakesStagedStop (n : Machine) (v : ℕ) (c : Processing) (s s' : Stage) : Type 0 where
  pub made : List Made
  pub leads : Leads n v s.board made s'.board
  pub stop : turning.IsStop (port_on n v s.board) (port_on n v s'.board)
  pub cpus : s'.cpus ≡ slice_set s.cpus v (record c { retired = true })
  pub gates : s'.gates ≡ s.gates

-- what a vCPU does of its own, and a retired one makes no step
abbrev pub UnlessRetired : (Processing → Stage → Stage → Type 0) → Processing → Bool → Stage → Stage → Type 0
UnlessRetired DoesNext c true s s' = s' ≡ s
UnlessRetired DoesNext c false s s' = DoesNext c s s'

abbrev pub ByCpu : (Processing → Stage → Stage → Type 0) → Option Processing → Stage → Stage → Type 0
ByCpu DoesNext None s s' = ⊥
ByCpu DoesNext (Some c) s s' = UnlessRetired DoesNext c c.retired s s'

abbrev pub IsStagedTurn : Machine → ℕ → Stage → Stage → Type 0
IsStagedTurn n v s s' = ByCpu (MakesStagedTurn n v) (slice_get s.cpus v) s s'

abbrev pub IsStagedStop : Machine → ℕ → Stage → Stage → Type 0
IsStagedStop n v s s' = ByCpu (MakesStagedStop n v) (slice_get s.cpus v) s s'

-- these vCPUs do this one after the other, in this order
pub data InOrder (DoesNext : ℕ → Stage → Stage → Type 0) : List ℕ → Stage → Stage → Type 0 where
  none : (s : Stage) → InOrder DoesNext [] s s
  more : (vs : List ℕ) (v : ℕ) (s m s' : Stage) → InOrder DoesNext vs s m → DoesNext v m s' → InOrder DoesNext (vs ++ v ∷ []) s s'

abbrev pub Turns : Machine → List ℕ → Stage → Stage → Type 0
Turns n vs s s' = InOrder (IsStagedTurn n) vs s s'

abbrev pub Stops : Machine → List ℕ → Stage → Stage → Type 0
Stops n vs s s' = InOrder (IsStagedStop n) vs s s'

-- these turns, and then a stop of each vCPU that is not retired
pub record WorksOff (n : Machine) (vs : List ℕ) (s s' : Stage) : Type 0 where
  pub worked : Stage
  pub turns : Turns n vs s worked
  pub stops : Stops n (range_with_len 0 (sizes_of n).vcpus) worked s'
