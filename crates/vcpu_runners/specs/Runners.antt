-- A turn by the port of its vCPU, with the own gate.
use Rattle.std.specs.Prelude.{◌≡◌, Bool, true, false, List}
use Rattle.xp_board.specs.Told.{PortValue}
use Rattle.vcpu_turn.specs.declared.cpu.TurnEnd.{TurnEnd}
use Rattle.vcpu_turn.specs.Cpus.{Processing}
use Rattle.vcpu_turn.specs.Turning.{IsTurn, is_due}
use Rattle.xp_preempt.specs.Gates.{Consulted, Gate, ends_yes}

-- a vCPU that is not retired makes a turn in which it asks its gate, and has that gate behind it as the turn left it, also where it retires
pub record TakesTurn (has left : Gate) (c c' : Processing) (v w : PortValue) : Type 0 where
  pub end : TurnEnd
  pub answers : List Bool
  pub turn : IsTurn c c' end v w answers
  pub consulted : Consulted has left answers
  pub due : is_due end ≡ true → ends_yes answers ≡ true

pub record Rested (has left : Gate) (c c' : Processing) (v w : PortValue) : Type 0 where
  pub cpu : c' ≡ c
  pub port : w ≡ v
  pub gate : left ≡ has

abbrev pub TakesTurnBy : Bool → Gate → Gate → Processing → Processing → PortValue → PortValue → Type 0
TakesTurnBy true has left c c' v w = Rested has left c c' v w
TakesTurnBy false has left c c' v w = TakesTurn has left c c' v w
