use Rattle.dead_domains.proofs.Acts.{acts_bring_nothing}
use Rattle.dead_domains.proofs.stopped.the_stopped_gain_nothing.Goals as goal

pub returns : goal.returns
returns c = acts_bring_nothing
