use Rattle.turn_measures.proofs.Waiting.{waited_asked, waited_other, waited_runs}
use Rattle.turn_measures.proofs.PausedForFlush.{turn_paused}
use Rattle.turn_measures.proofs.flushing.who_is_waited_for_is_asked.Goals as goal
use Rattle.answer_laws.proofs.Shared.{alone_telling}

pub returns-clause-other : goal.returns-clause-other
returns-clause-other c e d v w answers u stamp found t = waited_other v w u stamp found (turn_paused e d v w answers u stamp found t)

pub returns-clause-runs : goal.returns-clause-runs
returns-clause-runs c e d v w answers u stamp found alone t = waited_runs v w u stamp found (turn_paused e d v w answers u stamp found t) (alone_telling v alone)

pub returns-clause-asked : goal.returns-clause-asked
returns-clause-asked c e d v w answers u stamp found alone t = waited_asked v w u stamp found (turn_paused e d v w answers u stamp found t) (alone_telling v alone)
