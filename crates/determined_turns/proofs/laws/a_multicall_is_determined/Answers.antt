use Rattle.determined_turns.proofs.Multicalls.{calls_alike}
use Rattle.determined_turns.proofs.laws.a_multicall_is_determined.Goals as goal

pub returns : goal.returns
returns c = λ says n d calls op v from log to by w x behind late answers others a b g h p q. calls_alike says n d calls op v from log to by w x behind late answers others a b g h p q
