use Rattle.table_releases.proofs.Looking.{may_shed_by_owner}
use Rattle.table_releases.proofs.entries.shed_by_owner.Goals as goal

pub make-requires : goal.make-requires
make-requires g c = may_shed_by_owner (g.P.Port.value c.args.port.now) c.args.table c.args.upto c.args.frame c.requires.frame c.requires.may
