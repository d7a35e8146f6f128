use Rattle.std.proofs.Common.{rules}
use Rattle.xp_preempt.proofs.Consulting.{past_none}
use Rattle.mmu_update.proofs.Holding.{elsewhere}
use Rattle.mmu_update.proofs.Referring.{may_put, ordinary, under_lock, unlocked}
use Rattle.mmu_update.proofs.WriteKinds.{lock_kinds}
use Rattle.mmu_update.proofs.elements.write_referred.Goals as goal

pub lock_entry-requires : goal.lock_entry-requires
lock_entry-requires g c =
    let r = c.requires.referred.1 in
    let apart = elsewhere c.requires.referred.0 (g.P.Port.value c.args.port.now) c.args.frame c.args.owners.tables r.begins.rests r.hand in
    record { frame = search rules; may = search rules; lent = search rules; apart = apart; looked = search rules }

pub put_ref-requires-clause-gives : goal.put_ref-requires-clause-gives
put_ref-requires-clause-gives g c = may_put (g.P.Port.value c.lock_entry.new.port) c.requires.referred.1 c.in-Err.ensures.hand

pub returns-in-Ok-Table : goal.returns-in-Ok-Table
returns-in-Ok-Table g c = λ b r.
    let t = c.in-Ok-Table.ensures in
    c.write_entry.ensures b (under_lock r t.serves (record { found = t.found; plain = t.plain; stops = tt }) t.hand c.in-Ok-Table.field-0-is)

pub returns-in-Ok-Other : goal.returns-in-Ok-Other
returns-in-Ok-Other g c = λ b r.
    let t = c.in-Ok-Other.ensures in
    past_none c.write_memory.ensures.undue (c.write_memory.ensures.writes b c.args.keep (ordinary r t.serves (record { found = t.found; plain = t.plain; stops = tt }) t.hand c.in-Ok-Other.field-0-is))

pub returns-in-Err : goal.returns-in-Err
returns-in-Err g c = λ b r.
    let t = c.in-Err.ensures in
    let p = c.put_ref.ensures in
    past_none (lock_kinds c.in-Err.stop t.kinds).1 (unlocked _ r t.hand p.hand t.serves t.kinds (record {
      found = t.found;
      plain = t.plain;
      stops = t.stops;
    }) p.serves (record { found = p.puts; plain = p.plain }))
