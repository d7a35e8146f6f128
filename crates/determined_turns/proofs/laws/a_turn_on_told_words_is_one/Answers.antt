use Rattle.determined_turns.proofs.Telling.{told_alike}
use Rattle.determined_turns.proofs.Turning.{is_turn_alike}
use Rattle.determined_turns.proofs.laws.a_turn_on_told_words_is_one.Goals as goal

pub returns : goal.returns
returns c = λ c one two end stop v w x answers others says n telling machine g h p q. let e = told_alike v w x _ telling (is_turn_alike says n c one two end stop v w x answers others machine g h p q) in (e.0, e.1.0, e.1.1, e.1.2)
