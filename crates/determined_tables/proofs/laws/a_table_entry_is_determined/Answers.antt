use Rattle.determined_tables.proofs.Entries.{entry_fixed}
use Rattle.determined_tables.proofs.laws.a_table_entry_is_determined.Goals as goal

pub returns : goal.returns
returns c = λ v w x owner t a b p q. (entry_fixed v owner t).alike w x a b p q
