use Rattle.determined_calls.proofs.Addressing.{leads_alike}
use Rattle.determined_calls.proofs.laws.a_way_down_is_determined.Goals as goal

pub returns : goal.returns
returns c = λ v w x va a b p q. leads_alike p q
