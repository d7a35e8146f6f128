use Rattle.turn_measures.proofs.SettlingOlds.{settles_less}
use Rattle.turn_measures.proofs.settling.a_paused_settling_names_less.Goals as goal

pub returns-clause-keeps : goal.returns-clause-keeps
returns-clause-keeps g below v w answers p alone free keeps settles = (settles_less below v w answers p alone free keeps settles).keeps

pub returns-clause-less : goal.returns-clause-less
returns-clause-less g below v w answers p alone free keeps settles = (settles_less below v w answers p alone free keeps settles).less
