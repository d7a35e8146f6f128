use Rattle.determined_laws.proofs.Types.{drops_tie}
use Rattle.determined_laws.proofs.laws.a_type_given_back_is_determined.Goals as goal

pub returns : goal.returns
returns c = drops_tie
