use Rattle.determined_calls.proofs.Exchanging.{exchanged_alike}
use Rattle.determined_calls.proofs.laws.an_exchange_is_determined.Goals as goal

pub returns : goal.returns
returns c = λ v w y x o answers others a b says n g h p q. exchanged_alike says n g h p q
