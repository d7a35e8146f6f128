use Rattle.determined_tables.proofs.Gdt.{sets_ldt_alike}
use Rattle.determined_tables.proofs.laws.an_ldt_is_determined.Goals as goal

pub returns : goal.returns
returns c = λ v w x address entries a b p q. sets_ldt_alike p q
