use Rattle.determined_tables.proofs.Pages.{got_page_alike}
use Rattle.determined_tables.proofs.laws.a_page_is_determined.Goals as goal

pub returns : goal.returns
returns c = λ v w x f owner a b p q. got_page_alike p q
