use Rattle.kind_words.proofs.KindHands.{no_work}
use Rattle.entry_exchange.proofs.LockOff.{last_left, may_leave, may_put, shared_left, still_held}
use Rattle.entry_exchange.proofs.locks.leave_lock.Goals as goal

pub unlock_entry-requires-clause-apart : goal.unlock_entry-requires-clause-apart
unlock_entry-requires-clause-apart g c = no_work c.args.table (g.P.Port.value c.args.port.now).holdings.works c.requires.works

-- ---- other type counts are left
pub put_ref-requires-clause-gives : goal.put_ref-requires-clause-gives
put_ref-requires-clause-gives g c = may_put c.requires.locked (rw c.if-unlock_entry.false at c.unlock_entry.ensures.unlocks)

pub returns-else-unlock_entry : goal.returns-else-unlock_entry
returns-else-unlock_entry g c =
    let put = c.put_ref.ensures in
    shared_left c.requires.locked (rw c.if-unlock_entry.false at c.unlock_entry.ensures.unlocks) c.unlock_entry.ensures.serves put.serves put.hand (record { found = put.puts; plain = put.plain })

-- ---- it was the last one
pub leave-requires-clause-leaves : goal.leave-requires-clause-leaves
leave-requires-clause-leaves g c =
    rw (rw c.level_type.ensures at c.partial_kind.ensures) (may_leave c.requires.locked c.requires.frame c.requires.low (rw c.if-unlock_entry.true at c.unlock_entry.ensures.unlocks))

pub put_old-requires-clause-held : goal.put_old-requires-clause-held
put_old-requires-clause-held g c =
    let unlocks = rw c.if-unlock_entry.true at c.unlock_entry.ensures.unlocks in
    still_held c.requires.locked c.requires.frame c.requires.low unlocks (rw c.level_type.ensures at c.partial_kind.ensures) c.leave.ensures.moves c.leave.ensures.hand

pub returns-then-unlock_entry : goal.returns-then-unlock_entry
returns-then-unlock_entry g c =
    let unlocks = rw c.if-unlock_entry.true at c.unlock_entry.ensures.unlocks in
    let is = rw c.level_type.ensures at c.partial_kind.ensures in
    last_left c.requires.locked c.requires.frame c.requires.low unlocks is c.leave.ensures.moves c.leave.ensures.hand c.unlock_entry.ensures.serves c.put_old.ensures.moves c.put_old.ensures.hand
