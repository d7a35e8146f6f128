use Rattle.frame_words.proofs.FreeSteps.{may_refund, refund_hand}
use Rattle.frame_words.proofs.freeing.lower_pages.Goals as goal

pub make-requires : goal.make-requires
make-requires g c = may_refund _ c.args.domain c.requires.domain c.requires.may c.requires.credit

pub returns-clause-hand : goal.returns-clause-hand
returns-clause-hand g c = refund_hand _ _ c.args.domain _ c.make.ensures
