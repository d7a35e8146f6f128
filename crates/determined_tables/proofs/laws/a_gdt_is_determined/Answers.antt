use Rattle.determined_tables.proofs.Gdt.{sets_gdt_alike}
use Rattle.determined_tables.proofs.laws.a_gdt_is_determined.Goals as goal

pub returns : goal.returns
returns c = λ v w x entries fs a b p q. sets_gdt_alike p q
