use Rattle.std.proofs.Common.{◌∙◌}
use Rattle.entry_exchange.proofs.ChangingDemand.{done_changed, given_leaves, lost_changed, may_put, of_level, off_freed, off_inside, off_may, off_old0, put_leaves, unput_taken, untaken_changed, untaken_leaves}
use Rattle.entry_exchange.proofs.exchanging.change_demand.Goals as goal

pub take_demand-requires-clause-asks : goal.take_demand-requires-clause-asks
take_demand-requires-clause-asks g c = of_level c.args.update.level c.args.update.index _ c.args.wanted c.requires.wanted c.requires.fits

-- ---- it is not to be had
pub leave_lock-requires : goal.leave_lock-requires
leave_lock-requires g c =
    untaken_leaves c.args.update c.args.owners c.requires.locked (rw (c.owner_at-owner.ensures, c.requires.wanted) at c.in-Err.ensures)
    c.requires.frame c.requires.may c.requires.low c.requires.high c.requires.room_too

pub returns-in-Err : goal.returns-in-Err
returns-in-Err g c =
    let took = rw (c.owner_at-owner.ensures, c.requires.wanted) at c.in-Err.ensures in
    untaken_changed c.args.update c.args.owners c.requires.locked took (rw c.requires.wanted at c.requires.fits) (rw c.requires.wanted at c.requires.other) c.leave_lock.ensures

-- ---- it is put there
pub put_entry-requires-clause-exchanges : goal.put_entry-requires-clause-exchanges
put_entry-requires-clause-exchanges g c =
    let took = rw (c.owner_at-owner.ensures, c.requires.wanted) at c.in-Ok.ensures in
    rw c.word_kept-new.ensures (may_put c.args.update c.args.owners c.requires.locked took c.requires.maps (rw c.requires.wanted at c.requires.fits))

pub leave_lock-requires-in-Ok-put_entry : goal.leave_lock-requires-in-Ok-put_entry
leave_lock-requires-in-Ok-put_entry g c =
    let took = rw (c.owner_at-owner.ensures, c.requires.wanted) at c.in-Ok.ensures in
    put_leaves c.args.update c.args.owners c.requires.locked took (rw c.requires.wanted at c.requires.other) (rw c.word_kept-new.ensures at c.in-Ok-put_entry.ensures)
    c.requires.frame c.requires.may c.requires.low c.requires.high c.requires.room_too

pub release_demand-requires : goal.release_demand-requires
release_demand-requires g c =
    let x = c.args.update in
    let o = c.args.owners in
    let took = rw (c.owner_at-owner.ensures, c.requires.wanted) at c.in-Ok.ensures in
    let other = rw c.requires.wanted at c.requires.other in
    let put = rw c.word_kept-new.ensures at c.in-Ok-put_entry.ensures in
    let left = c.leave_lock-in-Ok-put_entry.ensures in
    rw (c.demand.ensures, c.level_type.ensures) (record {
      may = off_may x o c.requires.locked took other put left c.requires.may;
      inside = off_inside x o c.requires.locked took other put left;
      freed = off_freed x o c.requires.locked took other put left;
      room = off_old0 x o c.requires.locked took other put left ∙ c.requires.room;
    })

pub returns-in-Ok-put_entry : goal.returns-in-Ok-put_entry
returns-in-Ok-put_entry g c =
    let took = rw (c.owner_at-owner.ensures, c.requires.wanted) at c.in-Ok.ensures in
    let other = rw c.requires.wanted at c.requires.other in
    let put = rw c.word_kept-new.ensures at c.in-Ok-put_entry.ensures in
    let freeing = rw (c.demand.ensures, c.level_type.ensures) at c.release_demand.ensures in
    done_changed c.args.update c.args.owners c.requires.locked took other put c.leave_lock-in-Ok-put_entry.ensures (rw c.requires.wanted at c.requires.fits) freeing

-- ---- it is not put there
pub give_demand-requires-clause-asks : goal.give_demand-requires-clause-asks
give_demand-requires-clause-asks g c = of_level c.args.update.level c.args.update.index _ c.args.wanted c.requires.wanted c.requires.fits

pub give_demand-requires-clause-taken : goal.give_demand-requires-clause-taken
give_demand-requires-clause-taken g c =
    let took = rw (c.owner_at-owner.ensures, c.requires.wanted) at c.in-Ok.ensures in
    rw (c.requires.wanted, c.owner_at-owner.ensures) (unput_taken c.args.update c.args.owners c.requires.locked took (rw c.word_kept-new.ensures at c.in-Err-put_entry.ensures))

pub leave_lock-requires-in-Err-put_entry : goal.leave_lock-requires-in-Err-put_entry
leave_lock-requires-in-Err-put_entry g c =
    let took = rw (c.owner_at-owner.ensures, c.requires.wanted) at c.in-Ok.ensures in
    given_leaves c.args.update c.args.owners c.requires.locked took (rw c.word_kept-new.ensures at c.in-Err-put_entry.ensures) (rw (c.owner_at-owner.ensures, c.requires.wanted) at c.give_demand.ensures)
    c.requires.frame c.requires.may c.requires.low c.requires.high c.requires.room_too

pub returns-in-Err-put_entry : goal.returns-in-Err-put_entry
returns-in-Err-put_entry g c =
    let took = rw (c.owner_at-owner.ensures, c.requires.wanted) at c.in-Ok.ensures in
    let put = rw c.word_kept-new.ensures at c.in-Err-put_entry.ensures in
    let gave = rw (c.owner_at-owner.ensures, c.requires.wanted) at c.give_demand.ensures in
    lost_changed c.args.update c.args.owners c.requires.locked took put gave (rw c.requires.wanted at c.requires.fits) (rw c.requires.wanted at c.requires.other) c.leave_lock-in-Err-put_entry.ensures
