use Rattle.turn_measures.proofs.LeavingTurns.{turn_spares}
use Rattle.turn_measures.proofs.others.a_turn_leaves_the_others.Goals as goal

pub returns : goal.returns
returns g = turn_spares
