use Rattle.determined_claims.proofs.Extents.{reserves_alike}
use Rattle.determined_claims.proofs.laws.an_extent_is_determined.Goals as goal

pub returns : goal.returns
returns c = λ v w x owner size extent from to other a b p q. reserves_alike p q
