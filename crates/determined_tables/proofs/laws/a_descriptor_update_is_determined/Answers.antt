use Rattle.determined_tables.proofs.Descriptors.{updates_descriptor_alike}
use Rattle.determined_tables.proofs.laws.a_descriptor_update_is_determined.Goals as goal

pub returns : goal.returns
returns c = λ v w x address word want other a b p q. updates_descriptor_alike p q
