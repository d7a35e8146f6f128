use Rattle.entry_locks.proofs.EntrySteps.{may_swap, swap_hand}
use Rattle.entry_locks.proofs.rows.swap_entry.Goals as goal

pub exchange-requires : goal.exchange-requires
exchange-requires g c = may_swap _ c.args.table c.args.index c.requires.frame c.requires.index c.requires.may c.args.expected c.args.new c.ranges.new.fits c.requires.exchanges

pub returns-clause-hand : goal.returns-clause-hand
returns-clause-hand g c = swap_hand _ _ c.args.table c.args.index c.args.expected c.args.new c.exchange.result c.exchange.ensures.moves c.exchange.ensures.lost
