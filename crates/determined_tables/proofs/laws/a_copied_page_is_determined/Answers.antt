use Rattle.determined_tables.proofs.Whole.{copies_page_alike}
use Rattle.determined_tables.proofs.laws.a_copied_page_is_determined.Goals as goal

pub returns : goal.returns
returns c = λ v w x d to from words others a b p q. copies_page_alike p q
