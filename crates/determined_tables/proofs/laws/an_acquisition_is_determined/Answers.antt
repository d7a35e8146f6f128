use Rattle.determined_tables.proofs.Acquired.{acquired_alike}
use Rattle.determined_tables.proofs.laws.an_acquisition_is_determined.Goals as goal

pub returns : goal.returns
returns c = λ v w x f owner level answers others a b says n give also p q. acquired_alike says n give also p q
