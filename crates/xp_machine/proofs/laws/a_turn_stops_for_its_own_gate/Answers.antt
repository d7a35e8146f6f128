use Rattle.xp_machine.proofs.Asking.{own_turn_stops}
use Rattle.xp_machine.proofs.laws.a_turn_stops_for_its_own_gate.Goals as goal

pub returns : goal.returns
returns c = own_turn_stops
