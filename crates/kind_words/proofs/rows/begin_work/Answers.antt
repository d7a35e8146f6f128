use Rattle.kind_words.proofs.RowSteps.{may_begin, begin_hand}
use Rattle.kind_words.proofs.rows.begin_work.Goals as goal

pub exchange-requires : goal.exchange-requires
exchange-requires g c = may_begin _ _ c.args.kind c.args.want c.requires.may c.requires.is c.requires.dead c.requires.wanted _ _ c.requires.frame c.requires.held c.write-expected.ensures c.begun-new.ensures

pub returns-clause-hand : goal.returns-clause-hand
returns-clause-hand g c = begin_hand _ _ c.args.kind c.args.want c.requires.may c.requires.is c.requires.dead c.requires.wanted _ _ _ c.exchange.result c.write-expected.ensures c.begun-new.ensures c.exchange.ensures.moves c.exchange.ensures.lost
