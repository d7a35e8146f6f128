use Rattle.determined_calls.proofs.Pinning.{pinned_alike}
use Rattle.determined_calls.proofs.laws.a_pin_is_determined.Goals as goal

pub returns : goal.returns
returns c = λ v w x d f level answers others a b says n g h p q. pinned_alike says n g h p q
