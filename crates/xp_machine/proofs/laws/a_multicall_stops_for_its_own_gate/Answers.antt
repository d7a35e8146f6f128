use Rattle.xp_machine.proofs.Asking.{own_call_stops, own_last_stops}
use Rattle.xp_machine.proofs.laws.a_multicall_stops_for_its_own_gate.Goals as goal

pub returns-clause-calls : goal.returns-clause-calls
returns-clause-calls y n v c s t g j m has later earlier x at hears some less is_yes = own_call_stops n v c s t g j m has later earlier x at hears some less is_yes

pub returns-clause-last : goal.returns-clause-last
returns-clause-last y n v c s t g j m has hears some less is_yes = own_last_stops n v c s t g j m has hears some less is_yes
