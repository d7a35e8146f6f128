use Rattle.table_words.proofs.RowSteps.{may_shed}
use Rattle.table_words.proofs.entries.shed_entry.Goals as goal

pub make-requires : goal.make-requires
make-requires g c = may_shed (g.P.Port.value c.args.port.now) c.args.frame c.args.upto c.requires
