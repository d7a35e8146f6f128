use Rattle.turn_measures.proofs.SettlingOlds.{settles_none, settles_same}
use Rattle.turn_measures.proofs.settling.a_settling_that_ends_names_none.Goals as goal

pub returns-clause-none : goal.returns-clause-none
returns-clause-none g = settles_none

pub returns-clause-same : goal.returns-clause-same
returns-clause-same g = settles_same
