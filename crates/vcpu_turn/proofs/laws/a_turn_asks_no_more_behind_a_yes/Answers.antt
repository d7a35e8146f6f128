use Rattle.vcpu_turn.proofs.Asking as asking
use Rattle.vcpu_turn.proofs.laws.a_turn_asks_no_more_behind_a_yes.Goals as goal

pub returns : goal.returns
returns c = asking.turn_stops
