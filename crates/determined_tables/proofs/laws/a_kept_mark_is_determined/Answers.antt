use Rattle.determined_laws.proofs.Courses.{alike_map}
use Rattle.determined_tables.proofs.Leaves.{kept_sure}
use Rattle.determined_tables.proofs.laws.a_kept_mark_is_determined.Goals as goal

pub returns : goal.returns
returns c = λ v w x f k owner p q. alike_map ((kept_sure v f k owner).alike w x tt tt p q) (λ e. tt)
