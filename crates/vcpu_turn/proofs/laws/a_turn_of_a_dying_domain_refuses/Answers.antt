use Rattle.vcpu_turn.proofs.Dying.{dying_refuses}
use Rattle.vcpu_turn.proofs.laws.a_turn_of_a_dying_domain_refuses.Goals as goal

pub returns : goal.returns
returns c = dying_refuses
