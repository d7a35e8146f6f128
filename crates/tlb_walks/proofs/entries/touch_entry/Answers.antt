use Rattle.tlb_walks.proofs.RowSteps.{may_touch, touch_hand}
use Rattle.tlb_walks.proofs.entries.touch_entry.Goals as goal

pub exchange-requires : goal.exchange-requires
exchange-requires g c = may_touch _ c.args.table c.args.index c.args.word c.args.new c.requires.table c.requires.index c.requires.ready c.ranges.new.fits c.requires.touching

pub returns-clause-hand : goal.returns-clause-hand
returns-clause-hand g c = touch_hand _ c.requires.ready _ c.args.table c.args.index c.args.word c.args.new c.exchange.result c.requires.touching c.exchange.ensures.moves c.exchange.ensures.lost
