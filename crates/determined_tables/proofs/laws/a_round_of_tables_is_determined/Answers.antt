use Rattle.std.proofs.Common.{ap}
use Rattle.determined_laws.proofs.Courses.{alike_map}
use Rattle.determined_tables.proofs.Tables.{Worksheet, advanced_fixed}
use Rattle.determined_tables.proofs.laws.a_round_of_tables_is_determined.Goals as goal

pub returns : goal.returns
returns c = λ v w x owner ts us xs a b p q. alike_map ((advanced_fixed owner v ts).alike w x (us, a) (xs, b) p q) (λ e. (ap (λ (z : Worksheet). z.0) e, ap (λ (z : Worksheet). z.1) e))
