use Rattle.entry_locks.proofs.EntrySteps.{may_store, store_hand}
use Rattle.entry_locks.proofs.rows.store_entry.Goals as goal

pub make-requires : goal.make-requires
make-requires g c = may_store _ c.args.table c.args.index c.requires.frame c.requires.index c.requires.may c.args.new c.ranges.new.fits c.requires.exchanges

pub returns-clause-hand : goal.returns-clause-hand
returns-clause-hand g c = store_hand _ _ c.args.table c.args.index c.args.new _ c.make.ensures
