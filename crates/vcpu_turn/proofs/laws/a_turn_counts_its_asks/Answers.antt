use Rattle.vcpu_turn.proofs.Asking as asking
use Rattle.vcpu_turn.proofs.laws.a_turn_counts_its_asks.Goals as goal

pub returns : goal.returns
returns c = asking.turn_asks
