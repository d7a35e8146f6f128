use Rattle.determined_laws.proofs.Courses.{alike_map}
use Rattle.determined_tables.proofs.Gdt.{names_sure}
use Rattle.determined_tables.proofs.laws.a_named_page_is_determined.Goals as goal

pub returns : goal.returns
returns c = λ v w x k new p q. alike_map ((names_sure v k new).alike w x tt tt p q) (λ e. tt)
