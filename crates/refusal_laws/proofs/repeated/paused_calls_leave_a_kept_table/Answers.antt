use Rattle.refusal_laws.proofs.Keeping.{kept_table}
use Rattle.refusal_laws.proofs.Repeating.{all_told, first_dead}
use Rattle.refusal_laws.proofs.repeated.paused_calls_leave_a_kept_table.Goals as goal

pub returns-clause-leaves : goal.returns-clause-leaves
returns-clause-leaves c v u f owner level p machine telling calm orderly low high d calls = kept_table v f owner level machine telling calm orderly low high p d u calls

pub returns-clause-found : goal.returns-clause-found
returns-clause-found c v u f owner level p machine telling calm orderly low high d calls = first_dead v f owner level machine telling calm orderly low high p d u calls

pub returns-clause-telling : goal.returns-clause-telling
returns-clause-telling c v u f owner level calls = all_told f owner level v u calls
