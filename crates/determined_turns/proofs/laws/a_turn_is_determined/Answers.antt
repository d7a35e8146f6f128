use Rattle.determined_turns.proofs.Turning.{is_turn_alike}
use Rattle.determined_turns.proofs.laws.a_turn_is_determined.Goals as goal

pub returns : goal.returns
returns c = λ c one two end stop v w x answers others says n machine g h p q. is_turn_alike says n c one two end stop v w x answers others machine g h p q
