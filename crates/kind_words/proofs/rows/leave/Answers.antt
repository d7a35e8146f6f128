use Rattle.kind_words.proofs.RowSteps.{may_leave}
use Rattle.kind_words.proofs.rows.leave.Goals as goal

pub make-requires : goal.make-requires
make-requires g c = may_leave _ _ _ c.args.kind c.requires.frame c.requires.may c.requires.leaves c.write-new.ensures
