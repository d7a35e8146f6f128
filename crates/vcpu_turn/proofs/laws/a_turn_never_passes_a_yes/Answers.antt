use Rattle.vcpu_turn.proofs.Asking as asking
use Rattle.vcpu_turn.proofs.laws.a_turn_never_passes_a_yes.Goals as goal

pub returns : goal.returns
returns c = asking.turn_within
