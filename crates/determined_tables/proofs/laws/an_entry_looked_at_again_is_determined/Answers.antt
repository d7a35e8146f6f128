use Rattle.determined_tables.proofs.Entries.{resumed_fixed}
use Rattle.determined_tables.proofs.laws.an_entry_looked_at_again_is_determined.Goals as goal

pub returns : goal.returns
returns c = λ v w x owner t a b p q. (resumed_fixed v owner t).alike w x a b p q
