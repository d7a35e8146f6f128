use Rattle.std.proofs.Common.{◌∙◌, sym}
use Rattle.std.proofs.lemmas.Result.{err_from_is_err_and}
use Rattle.entry_exchange.proofs.ExchangingEntry.{ended_bad, ended_changed, ended_same, ended_unput, keep_leaves, look_frame, look_leaves, look_maps, look_may, look_old0, look_old1, look_seen, may_keep}
use Rattle.entry_exchange.proofs.exchanging.exchange_entry.Goals as goal

-- ---- the new word asks what it may not
pub leave_lock-requires : goal.leave_lock-requires
leave_lock-requires g c = look_leaves c.args.update c.args.owners c.requires.locked c.look_cell-seen.ensures.moves c.look_cell-seen.ensures.hand c.requires.frame c.requires.may c.requires.low c.requires.high c.requires.room_too

pub returns-in-Bad : goal.returns-in-Bad
returns-in-Bad g c =
    let look = c.look_cell-seen.ensures in
    let bad = sym (rw (c.level_type-kind.ensures, c.word_kept-new.ensures) at c.demand-wanted.ensures) ∙ c.in-Bad.is in
    rw c.word_kept-new.ensures (ended_bad c.args.update c.args.owners c.requires.locked look.moves look.hand c.requires.may bad c.leave_lock.ensures)

-- ---- it asks the same
pub put_entry-put-requires : goal.put_entry-put-requires
put_entry-put-requires g c =
    let x = c.args.update in
    let look = c.look_cell-seen.ensures in
    let same = sym (rw (c.demand-wanted.ensures, c.demand.ensures, c.level_type-kind.ensures, c.word_kept-new.ensures) at c.is_same.ensures) ∙ c.if-is_same.true in
    record {
      frame = look_frame x c.args.owners c.requires.locked look.moves look.hand c.requires.frame;
      index = c.requires.index;
      may = look_may x c.args.owners c.requires.locked look.moves look.hand c.requires.may;
      exchanges = rw c.word_kept-new.ensures (may_keep x c.args.owners c.requires.locked look.moves look.hand same);
    }

pub leave_lock-requires-then-is_same : goal.leave_lock-requires-then-is_same
leave_lock-requires-then-is_same g c =
    let look = c.look_cell-seen.ensures in
    let same = sym (rw (c.demand-wanted.ensures, c.demand.ensures, c.level_type-kind.ensures, c.word_kept-new.ensures) at c.is_same.ensures) ∙ c.if-is_same.true in
    let put = rw c.word_kept-new.ensures at c.put_entry-put.ensures in
    keep_leaves c.args.update c.args.owners c.requires.locked look.moves look.hand same put c.requires.frame c.requires.may c.requires.low c.requires.high c.requires.room_too

pub returns-in_err-put : goal.returns-in_err-put
returns-in_err-put g c =
    let p = err_from_is_err_and c.from_residual.result c.from_residual.ensures.1 in
    let look = c.look_cell-seen.ensures in
    let same = sym (rw (c.demand-wanted.ensures, c.demand.ensures, c.level_type-kind.ensures, c.word_kept-new.ensures) at c.is_same.ensures) ∙ c.if-is_same.true in
    let put = rw c.word_kept-new.ensures at c.in_err-put.ensures in
    rw (p.1, p.2) (ended_unput c.args.update c.args.owners c.requires.locked look.moves look.hand same put c.requires.may c.leave_lock-then-is_same.ensures)

pub returns-then-is_same : goal.returns-then-is_same
returns-then-is_same g c =
    let look = c.look_cell-seen.ensures in
    let same = sym (rw (c.demand-wanted.ensures, c.demand.ensures, c.level_type-kind.ensures, c.word_kept-new.ensures) at c.is_same.ensures) ∙ c.if-is_same.true in
    let put = rw c.word_kept-new.ensures at c.in_ok-put.ensures in
    ended_same c.args.update c.args.owners c.requires.locked look.moves look.hand same put c.requires.may c.leave_lock-then-is_same.ensures

-- ---- it asks something else
pub change_demand-requires : goal.change_demand-requires
change_demand-requires g c =
    let x = c.args.update in
    let look = c.look_cell-seen.ensures in
    let wanted = rw (c.level_type-kind.ensures, c.word_kept-new.ensures) at c.demand-wanted.ensures in
    record {
      frame = look_frame x c.args.owners c.requires.locked look.moves look.hand c.requires.frame;
      low = c.requires.low;
      high = c.requires.high;
      index = c.requires.index;
      slot = c.requires.slot;
      may = look_may x c.args.owners c.requires.locked look.moves look.hand c.requires.may;
      locked = look_seen x c.args.owners c.requires.locked look.moves look.hand;
      maps = look_maps x c.args.owners c.requires.locked look.moves look.hand c.requires.maps;
      room = look_old0 x c.args.owners c.requires.locked look.moves look.hand ∙ c.requires.room;
      room_too = look_old1 x c.args.owners c.requires.locked look.moves look.hand ∙ c.requires.room_too;
      wanted = wanted;
      fits = c.in_default.not-Bad;
      other = sym (rw (c.demand.ensures, c.level_type-kind.ensures) at c.is_same.ensures) ∙ c.if-is_same.false;
    }

pub returns : goal.returns
returns g c = let look = c.look_cell-seen.ensures in ended_changed c.args.update c.args.owners c.requires.locked look.moves look.hand c.requires.may c.change_demand.ensures
