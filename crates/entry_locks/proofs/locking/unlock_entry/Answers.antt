use Rattle.entry_locks.proofs.Unlocking.{lock_held, unlock_serves, unlock_words, unlocks}
use Rattle.entry_locks.proofs.locking.unlock_entry.Goals as goal

pub clear_lock-requires-clause-locked : goal.clear_lock-requires-clause-locked
clear_lock-requires-clause-locked g c = lock_held c.args.frame c.requires.locked.0 (g.P.Port.value c.args.port.now).holdings c.requires.locked.1

pub returns-clause-serves : goal.returns-clause-serves
returns-clause-serves g c = unlock_serves (g.P.Port.value c.args.port.now) (g.P.Port.value c.clear_lock.new.port) c.args.frame c.clear_lock.result c.clear_lock.ensures.moves

pub returns-clause-unlocks : goal.returns-clause-unlocks
returns-clause-unlocks g c =
    unlocks (g.P.Port.value c.args.port.now) (g.P.Port.value c.clear_lock.new.port) c.args.frame c.clear_lock.result c.clear_lock.ensures.moves c.clear_lock.ensures.hand c.requires.locked.0 c.requires.locked.1
    c.requires.frame c.requires.apart c.counts_one.result c.counts_one.ensures

pub returns-clause-plain : goal.returns-clause-plain
returns-clause-plain g c = unlock_words (g.P.Port.value c.args.port.now) (g.P.Port.value c.clear_lock.new.port) c.args.frame c.clear_lock.result c.clear_lock.ensures.moves
