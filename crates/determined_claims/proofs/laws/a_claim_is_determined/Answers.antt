use Rattle.determined_claims.proofs.Claims.{claims_tie}
use Rattle.determined_claims.proofs.laws.a_claim_is_determined.Goals as goal

pub returns : goal.returns
returns c = λ q d k g a b us vs real. claims_tie q d k g real a b us vs
