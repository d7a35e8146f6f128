use Rattle.entry_locks.proofs.LockSteps.{may_unlock}
use Rattle.entry_locks.proofs.rows.clear_lock.Goals as goal

pub make-requires : goal.make-requires
make-requires g c = may_unlock _ c.args.frame c.requires.frame c.requires.may c.requires.locked
