use Rattle.determined_tables.proofs.Whole.{clears_page_alike}
use Rattle.determined_tables.proofs.laws.a_cleared_page_is_determined.Goals as goal

pub returns : goal.returns
returns c = λ v w x d f a b p q. clears_page_alike p q
