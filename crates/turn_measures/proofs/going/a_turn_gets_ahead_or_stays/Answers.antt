use Rattle.turn_measures.proofs.Ahead.{turn_gets, turn_script}
use Rattle.turn_measures.proofs.going.a_turn_gets_ahead_or_stays.Goals as goal

pub returns-clause-within : goal.returns-clause-within
returns-clause-within g c d end v w answers within runs free turn = (turn_gets c d end v w answers within runs free turn).0

pub returns-clause-script : goal.returns-clause-script
returns-clause-script g = turn_script

pub returns-clause-gets : goal.returns-clause-gets
returns-clause-gets g c d end v w answers within runs free turn = (turn_gets c d end v w answers within runs free turn).1
