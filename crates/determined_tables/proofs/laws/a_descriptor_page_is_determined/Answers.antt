use Rattle.determined_tables.proofs.Descs.{got_desc_alike}
use Rattle.determined_tables.proofs.laws.a_descriptor_page_is_determined.Goals as goal

pub returns : goal.returns
returns c = λ v w x f owner a b p q. got_desc_alike p q
