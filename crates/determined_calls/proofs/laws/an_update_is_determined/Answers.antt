use Rattle.determined_calls.proofs.Elements.{updated_alike}
use Rattle.determined_calls.proofs.laws.an_update_is_determined.Goals as goal

pub returns : goal.returns
returns c = λ v w x o e answers others a b says n g h p q. updated_alike v o e w x answers others a b says n g h p q
