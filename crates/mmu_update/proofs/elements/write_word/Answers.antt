use Rattle.std.proofs.lemmas.Result.{err_from_is_err_and}
use Rattle.table_entries.proofs.Ending.{reference_undue}
use Rattle.xp_preempt.proofs.Consulting.{past_none}
use Rattle.mmu_update.proofs.Referring.{referred_by, unreferred}
use Rattle.mmu_update.proofs.elements.write_word.Goals as goal

pub returns-in_err-frame : goal.returns-in_err-frame
returns-in_err-frame g c =
    let p = err_from_is_err_and c.from_residual.result c.from_residual.ensures.1 in
    let t = c.in_err-frame.ensures in
    rw (p.1, p.2) (past_none (reference_undue c.in_err-frame.field-0.0 t.kinds) (unreferred c.requires.begins t.serves t.kinds t.hand (record { found = t.gets; plain = t.plain; stops = t.stops })))

pub write_referred-requires-clause-referred : goal.write_referred-requires-clause-referred
write_referred-requires-clause-referred g c =
    let t = c.in_ok-frame.ensures in
    (g.P.Port.value c.args.port.now, referred_by t.frame c.requires.begins (record { found = t.gets; plain = t.plain; stops = tt }) t.serves t.hand)

pub returns : goal.returns
returns g c =
    let t = c.in_ok-frame.ensures in
    rw t.frame.0 at (c.write_referred.ensures (g.P.Port.value c.args.port.now) (referred_by t.frame c.requires.begins (record { found = t.gets; plain = t.plain; stops = tt }) t.serves t.hand))
