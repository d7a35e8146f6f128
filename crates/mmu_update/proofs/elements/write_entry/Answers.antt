use Rattle.std.proofs.Common.{refl, sym, ◌∙◌, rules}
use Rattle.xp_preempt.proofs.Consulting.{past_none}
use Rattle.mmu_update.proofs.Locking.{exchanged_writes, holds_lock, holds_table, maps_still, slot_updates}
use Rattle.mmu_update.proofs.elements.write_entry.Goals as goal

pub leave_lock-requires : goal.leave_lock-requires
leave_lock-requires g c = let locked = holds_lock c.requires.locked.1 in search (rules, locked)

pub returns-then-is_xen_slot : goal.returns-then-is_xen_slot
returns-then-is_xen_slot g c = λ b a. past_none refl (slot_updates a (sym c.is_xen_slot.ensures ∙ c.if-is_xen_slot.true) c.leave_lock.ensures)

pub exchange_entry-requires-clause-locked : goal.exchange_entry-requires-clause-locked
exchange_entry-requires-clause-locked g c = holds_table c.requires.locked.1

pub exchange_entry-requires-clause-maps : goal.exchange_entry-requires-clause-maps
exchange_entry-requires-clause-maps g c = maps_still c.requires.locked.1

pub returns : goal.returns
returns g c = λ b a. exchanged_writes a (sym c.is_xen_slot.ensures ∙ c.if-is_xen_slot.false) c.exchange_entry.ensures
