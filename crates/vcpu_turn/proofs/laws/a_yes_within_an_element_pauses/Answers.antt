use Rattle.vcpu_turn.proofs.TurnItems.{task_passes}
use Rattle.vcpu_turn.proofs.laws.a_yes_within_an_element_pauses.Goals as goal

pub returns : goal.returns
returns c0 c d op task end v w answers next built turn = task_passes c d end v w answers turn op task next built
