use Rattle.determined_runs.proofs.Texts.{run_same}
use Rattle.determined_runs.proofs.laws.a_run_is_determined.Goals as goal

pub returns : goal.returns
returns c = λ t gates a b p q. run_same t gates a b p q
