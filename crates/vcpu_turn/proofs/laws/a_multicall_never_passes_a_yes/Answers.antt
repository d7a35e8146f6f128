use Rattle.vcpu_turn.proofs.CallYeses.{call_stops, last_stops}
use Rattle.vcpu_turn.proofs.laws.a_multicall_never_passes_a_yes.Goals as goal

pub returns-clause-calls : goal.returns-clause-calls
returns-clause-calls x c d end v w before answers says turn gives later earlier g at hears j some less is_yes = call_stops c d end v w before answers says turn gives later earlier g at hears j some less is_yes

pub returns-clause-last : goal.returns-clause-last
returns-clause-last x c d end v w before answers says turn hears gives j some less is_yes = last_stops c d end v w before answers says turn hears gives j some less is_yes
