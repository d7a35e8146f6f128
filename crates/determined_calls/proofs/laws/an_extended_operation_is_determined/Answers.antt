use Rattle.determined_calls.proofs.Elements.{performed_alike}
use Rattle.determined_calls.proofs.laws.an_extended_operation_is_determined.Goals as goal

pub returns : goal.returns
returns c = λ v w x d e awaited answers others a b says n g h p q. performed_alike v w x d e awaited answers others a b says n g h p q
