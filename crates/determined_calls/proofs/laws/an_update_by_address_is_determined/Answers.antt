use Rattle.determined_calls.proofs.Addressing.{updated_at_alike}
use Rattle.determined_calls.proofs.laws.an_update_by_address_is_determined.Goals as goal

pub returns : goal.returns
returns c = λ v w x o va word table other answers others a b says n g h p q. updated_at_alike says n g h p q
