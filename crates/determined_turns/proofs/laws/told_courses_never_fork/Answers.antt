use Rattle.determined_turns.proofs.Telling.{never_forked}
use Rattle.determined_turns.proofs.laws.told_courses_never_fork.Goals as goal

pub returns : goal.returns
returns c = λ v w x telling f. never_forked v w x telling f
