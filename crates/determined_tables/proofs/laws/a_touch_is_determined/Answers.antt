use Rattle.determined_tables.proofs.Touching.{touches_ldt_alike}
use Rattle.determined_tables.proofs.laws.a_touch_is_determined.Goals as goal

pub returns : goal.returns
returns c = λ v w x page base other frame second a b p q. touches_ldt_alike p q
