use Rattle.kind_words.proofs.RowSteps.{may_resume, resume_hand}
use Rattle.kind_words.proofs.rows.resume_work.Goals as goal

pub exchange-requires : goal.exchange-requires
exchange-requires g c = may_resume _ _ c.args.kind c.requires.may c.requires.is c.requires.partial _ _ c.requires.frame c.write-expected.ensures c.resumed-new.ensures

pub returns-clause-hand : goal.returns-clause-hand
returns-clause-hand g c = resume_hand _ _ c.args.kind c.requires.may c.requires.is c.requires.partial _ _ _ c.exchange.result c.write-expected.ensures c.resumed-new.ensures c.exchange.ensures.moves c.exchange.ensures.lost
