use Rattle.dead_domains.proofs.Acts.{acts_keep_dying}
use Rattle.dead_domains.proofs.stopped.the_destroyer_alone_buries.Goals as goal

pub returns : goal.returns
returns c = acts_keep_dying
