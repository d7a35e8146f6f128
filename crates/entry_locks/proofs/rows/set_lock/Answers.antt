use Rattle.entry_locks.proofs.LockSteps.{lock_hand, may_lock}
use Rattle.entry_locks.proofs.rows.set_lock.Goals as goal

pub exchange-requires : goal.exchange-requires
exchange-requires g c = may_lock _ _ c.args.kind c.requires.may c.requires.is c.requires.locks _ _ c.requires.frame c.requires.spelled c.locked-new.ensures

pub returns-clause-hand : goal.returns-clause-hand
returns-clause-hand g c = lock_hand _ _ c.args.kind c.requires.may c.requires.is c.requires.locks _ _ _ c.exchange.result c.requires.spelled c.locked-new.ensures c.exchange.ensures.moves c.exchange.ensures.lost
