use Rattle.determined_tables.proofs.Descs.{took_desc_fixed}
use Rattle.determined_tables.proofs.laws.a_descriptor_page_taken_is_determined.Goals as goal

pub returns : goal.returns
returns c = λ v w x f owner a b p q. (took_desc_fixed f owner v).alike w x a b p q
