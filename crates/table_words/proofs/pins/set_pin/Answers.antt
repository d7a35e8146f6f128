use Rattle.table_words.proofs.PinSteps.{may_set_pin, set_pin_hand}
use Rattle.table_words.proofs.pins.set_pin.Goals as goal

pub exchange-requires : goal.exchange-requires
exchange-requires g c = may_set_pin _ _ c.args.kind c.requires.is c.requires.pins _ _ c.requires.frame c.requires.may c.requires.fits c.write-expected.ensures c.pinned-new.ensures

pub returns-clause-hand : goal.returns-clause-hand
returns-clause-hand g c = set_pin_hand _ _ c.args.kind c.requires.is c.requires.pins _ _ _ c.exchange.result c.write-expected.ensures c.pinned-new.ensures c.exchange.ensures.moves c.exchange.ensures.lost
