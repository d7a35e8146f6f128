use Rattle.solo_deaths.proofs.Ending.{begins_dying}
use Rattle.solo_deaths.proofs.deaths.a_destruction_begins.Goals as goal

pub returns : goal.returns
returns c w d op log x = begins_dying w d op log x
