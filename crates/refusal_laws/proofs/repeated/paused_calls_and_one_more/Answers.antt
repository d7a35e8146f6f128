use Rattle.refusal_laws.proofs.Repeating.{one_more}
use Rattle.refusal_laws.proofs.repeated.paused_calls_and_one_more.Goals as goal

pub returns : goal.returns
returns c v u w f owner level answers answer before acquired room = one_more f owner level v u w answers answer before acquired room
