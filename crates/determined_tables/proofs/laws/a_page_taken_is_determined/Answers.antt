use Rattle.determined_tables.proofs.Pages.{took_page_fixed}
use Rattle.determined_tables.proofs.laws.a_page_taken_is_determined.Goals as goal

pub returns : goal.returns
returns c = λ v w x f owner a b p q. (took_page_fixed f owner v).alike w x a b p q
