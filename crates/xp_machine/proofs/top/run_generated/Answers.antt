use Rattle.std.proofs.Common.{rules}
use Rattle.xp_machine.proofs.top.run_generated.Goals as goal

pub returns-clause-outcome : goal.returns-clause-outcome
returns-clause-outcome g c = (_, c.paced.ensures.paced, search rules)
