use Rattle.determined_calls.proofs.Pinning.{pin_ends_alike}
use Rattle.determined_calls.proofs.laws.a_pin_of_a_live_table_is_determined.Goals as goal

pub returns : goal.returns
returns c = λ v w x f level a b p q. pin_ends_alike p q
