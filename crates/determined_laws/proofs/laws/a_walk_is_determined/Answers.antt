use Rattle.determined_laws.proofs.Walks.{walk_tie}
use Rattle.determined_laws.proofs.laws.a_walk_is_determined.Goals as goal

pub returns : goal.returns
returns c = λ n vcpu user va write a b us vs. walk_tie n va write a b vcpu user us vs
