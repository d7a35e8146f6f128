use Rattle.mmu_update.proofs.EnteringAt.{at_exchanged}
use Rattle.mmu_update.proofs.Locking.{holds_table, maps_still}
use Rattle.mmu_update.proofs.updates_at.enter_locked.Goals as goal

pub exchange_entry-requires-clause-locked : goal.exchange_entry-requires-clause-locked
exchange_entry-requires-clause-locked g c = holds_table c.requires.locked.1

pub exchange_entry-requires-clause-maps : goal.exchange_entry-requires-clause-maps
exchange_entry-requires-clause-maps g c = maps_still c.requires.locked.1

pub returns : goal.returns
returns g c = λ b a. at_exchanged a c.index_at.ensures.index c.exchange_entry.ensures
