use Rattle.kind_words.proofs.RowSteps.{may_count, count_hand}
use Rattle.kind_words.proofs.rows.count_type.Goals as goal

pub exchange-requires : goal.exchange-requires
exchange-requires g c = may_count _ _ c.args.kind c.requires.may c.requires.is c.requires.live c.requires.counted c.requires.low _ _ c.requires.frame c.requires.held c.requires.spelled c.raised-new.ensures

pub returns-clause-hand : goal.returns-clause-hand
returns-clause-hand g c = count_hand _ _ c.args.kind c.requires.may c.requires.is c.requires.live c.requires.counted c.requires.low _ _ _ c.exchange.result c.requires.spelled c.raised-new.ensures c.exchange.ensures.moves c.exchange.ensures.lost
