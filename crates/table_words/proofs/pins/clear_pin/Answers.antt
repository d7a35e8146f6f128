use Rattle.table_words.proofs.PinSteps.{may_clear_pin, clear_pin_hand}
use Rattle.table_words.proofs.pins.clear_pin.Goals as goal

pub exchange-requires : goal.exchange-requires
exchange-requires g c = may_clear_pin _ _ c.args.kind c.requires.is c.requires.unpins _ _ c.requires.frame c.requires.may c.requires.fits c.write-expected.ensures c.unpinned-new.ensures

pub returns-clause-hand : goal.returns-clause-hand
returns-clause-hand g c = clear_pin_hand _ _ c.args.kind c.requires.is c.requires.unpins _ _ _ c.exchange.result c.write-expected.ensures c.unpinned-new.ensures c.exchange.ensures.moves c.exchange.ensures.lost
