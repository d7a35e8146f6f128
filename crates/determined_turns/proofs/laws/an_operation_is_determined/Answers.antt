use Rattle.determined_turns.proofs.Turning.{by_alike, own_is_real}
use Rattle.determined_turns.proofs.laws.an_operation_is_determined.Goals as goal

pub returns : goal.returns
returns c = λ says n d job op v from to by w x log behind late answers others a b machine real g h p q. by_alike says n d job op v from to by w x log behind late answers others a b (own_is_real v.post machine real) g h p q
