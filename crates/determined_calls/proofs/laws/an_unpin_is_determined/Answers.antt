use Rattle.determined_calls.proofs.Pinning.{unpinned_alike}
use Rattle.determined_calls.proofs.laws.an_unpin_is_determined.Goals as goal

pub returns : goal.returns
returns c = λ v w x d f answers others a b says n g h p q. unpinned_alike says n g h p q
