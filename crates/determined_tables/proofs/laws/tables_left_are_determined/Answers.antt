use Rattle.determined_laws.proofs.Courses.{alike_map}
use Rattle.determined_tables.proofs.Leaves.{unwound_sure}
use Rattle.determined_tables.proofs.laws.tables_left_are_determined.Goals as goal

pub returns : goal.returns
returns c = λ v w x owner ts kept p q. alike_map ((unwound_sure v owner ts kept).alike w x tt tt p q) (λ e. tt)
