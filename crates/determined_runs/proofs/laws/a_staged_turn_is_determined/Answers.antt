use Rattle.determined_runs.proofs.Stages.{turn_same}
use Rattle.determined_runs.proofs.laws.a_staged_turn_is_determined.Goals as goal

pub returns : goal.returns
returns c = λ n v cpu s a b machine p q. turn_same n machine v cpu s a b p q
