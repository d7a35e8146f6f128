use Rattle.determined_laws.proofs.Accesses.{writes_tie}
use Rattle.determined_laws.proofs.laws.a_guests_store_is_determined.Goals as goal

pub returns : goal.returns
returns c = λ v w x user va val a b p q. writes_tie v w x user va val a b p q
