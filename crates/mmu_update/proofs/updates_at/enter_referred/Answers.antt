use Rattle.std.proofs.Common.{refl, ap, ◌∙◌, rules}
use Rattle.entry_locks.specs.declared.locking.Locked.TheVariants.{Table}
use Rattle.mmu_update.proofs.EnteringAt.{at_level, at_ordinary, at_unlocked}
use Rattle.mmu_update.proofs.Holding.{elsewhere}
use Rattle.mmu_update.proofs.Locking.{holds_lock}
use Rattle.xp_preempt.proofs.Consulting.{past_none}
use Rattle.mmu_update.proofs.Referring.{may_put, ordinary, under_lock}
use Rattle.mmu_update.proofs.WriteKinds.{lock_kinds}
use Rattle.mmu_update.proofs.updates_at.enter_referred.Goals as goal

pub lock_entry-requires : goal.lock_entry-requires
lock_entry-requires g c =
    let r = c.requires.referred.1 in
    let apart = elsewhere c.requires.referred.0 (g.P.Port.value c.args.port.now) c.args.table c.args.owners.tables r.begins.rests r.hand in
    record { frame = search rules; may = search rules; lent = search rules; apart = apart; looked = search rules }

pub leave_lock-requires : goal.leave_lock-requires
leave_lock-requires g c =
    let t = c.in-Ok-Table.ensures in
    let locked = holds_lock (under_lock c.requires.referred.1 t.serves (record { found = t.found; plain = t.plain; stops = tt }) t.hand c.in-Ok-Table.field-0-is) in
    search (rules, locked)

pub enter_locked-requires : goal.enter_locked-requires
enter_locked-requires g c =
    let t = c.in-Ok-Table.ensures in
    record {
      locked = (
        c.requires.referred.0,
        under_lock c.requires.referred.1 t.serves (record { found = t.found; plain = t.plain; stops = tt }) t.hand (c.in-Ok-Table.field-0-is ∙ ap (λ l. Table l c.in-Ok-Table.found) c.if-level-ne-LAST.false),
      );
    }

pub put_ref-requires-clause-gives : goal.put_ref-requires-clause-gives
put_ref-requires-clause-gives g c =
    let r = c.requires.referred.1 in
    let t = c.in-Ok-Other.ensures in
    may_put (g.P.Port.value c.lock_entry.new.port) r (ordinary r t.serves (record { found = t.found; plain = t.plain; stops = tt }) t.hand c.in-Ok-Other.field-0-is).same

pub put_ref-requires-in-Err-clause-gives : goal.put_ref-requires-in-Err-clause-gives
put_ref-requires-in-Err-clause-gives g c = may_put (g.P.Port.value c.lock_entry.new.port) c.requires.referred.1 c.in-Err.ensures.hand

pub returns-in-Ok-Table : goal.returns-in-Ok-Table
returns-in-Ok-Table g c = λ b r.
    let t = c.in-Ok-Table.ensures in
    rw c.other_type.ensures (past_none refl
    (at_level (under_lock r t.serves (record { found = t.found; plain = t.plain; stops = tt }) t.hand c.in-Ok-Table.field-0-is) c.if-level-ne-LAST.true c.leave_lock.ensures))

pub returns-in-Ok-Table-2 : goal.returns-in-Ok-Table-2
returns-in-Ok-Table-2 g c = λ b r.
    let t = c.in-Ok-Table.ensures in
    c.enter_locked.ensures b
    (under_lock r t.serves (record { found = t.found; plain = t.plain; stops = tt }) t.hand (c.in-Ok-Table.field-0-is ∙ ap (λ l. Table l c.in-Ok-Table.found) c.if-level-ne-LAST.false))

pub returns-in-Ok-Other : goal.returns-in-Ok-Other
returns-in-Ok-Other g c = λ b r.
    let t = c.in-Ok-Other.ensures in
    let p = c.put_ref.ensures in
    rw c.other_type-in-Ok-Other.ensures (past_none refl
    (at_ordinary (ordinary r t.serves (record { found = t.found; plain = t.plain; stops = tt }) t.hand c.in-Ok-Other.field-0-is) p.hand p.serves (record { found = p.puts; plain = p.plain })))

pub returns-in-Err : goal.returns-in-Err
returns-in-Err g c = λ b r.
    let t = c.in-Err.ensures in
    let p = c.put_ref-in-Err.ensures in
    past_none (lock_kinds c.in-Err.stop t.kinds).1
    (at_unlocked _ r t.hand p.hand p.serves (record { found = p.puts; plain = p.plain }) t.serves t.kinds (record {
      found = t.found;
      plain = t.plain;
      stops = t.stops;
    }))
