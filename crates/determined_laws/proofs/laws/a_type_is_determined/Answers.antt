use Rattle.determined_laws.proofs.Types.{types_tie}
use Rattle.determined_laws.proofs.laws.a_type_is_determined.Goals as goal

pub returns : goal.returns
returns c = λ q frame owner want a b us vs real. types_tie q real frame owner want a b us vs
