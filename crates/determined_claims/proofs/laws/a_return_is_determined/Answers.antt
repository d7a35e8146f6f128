use Rattle.determined_claims.proofs.Returns.{returns_tie}
use Rattle.determined_claims.proofs.laws.a_return_is_determined.Goals as goal

pub returns : goal.returns
returns c = returns_tie
