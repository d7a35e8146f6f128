-- What an update does where the frame is a page table, passed on to those who speak of whole turns.
pub use Rattle.entry_exchange.specs.declared.exchanging.EntryUpdate.{EntryUpdate}
pub use Rattle.entry_exchange.specs.Serving.{asks_table}
pub use Rattle.entry_exchange.specs.Course.{Exchanged, LeftLock, PutEntry, ReleasedDemand, TookDemand, new_demand, old_demand}
