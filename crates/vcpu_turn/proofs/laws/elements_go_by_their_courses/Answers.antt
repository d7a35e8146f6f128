use Rattle.vcpu_turn.proofs.TurnItems.{task_fits}
use Rattle.vcpu_turn.proofs.laws.elements_go_by_their_courses.Goals as goal

pub returns : goal.returns
returns c0 c d op task end v w answers next built turn = task_fits c d end v w answers turn op task next built
