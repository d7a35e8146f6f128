use Rattle.std.proofs.Common.{sym}
use Rattle.std.proofs.lemmas.Result.{err_from_is_err_and}
use Rattle.table_entries.proofs.Ending.{reference_undue}
use Rattle.mmu_update.proofs.EnteringAt.{at_unreferred}
use Rattle.xp_preempt.proofs.Consulting.{past_none}
use Rattle.mmu_update.proofs.Referring.{referred_by}
use Rattle.mmu_update.proofs.updates_at.enter_table.Goals as goal

pub returns-in_err-frame : goal.returns-in_err-frame
returns-in_err-frame g c =
    let p = err_from_is_err_and c.from_residual.result c.from_residual.ensures.1 in
    let t = c.in_err-frame.ensures in
    rw (p.1, p.2, sym c.from.ensures) (past_none (reference_undue c.in_err-frame.field-0.0 t.kinds) (at_unreferred c.requires.begins t.serves t.kinds t.hand (record { found = t.gets; plain = t.plain; stops = t.stops })))

pub enter_referred-requires : goal.enter_referred-requires
enter_referred-requires g c =
    let t = c.in_ok-frame.ensures in
    record { referred = (g.P.Port.value c.args.port.now, referred_by t.frame c.requires.begins (record { found = t.gets; plain = t.plain; stops = tt }) t.serves t.hand) }

pub returns : goal.returns
returns g c =
    let t = c.in_ok-frame.ensures in
    rw (t.frame.0, c.from.ensures) at (c.enter_referred.ensures (g.P.Port.value c.args.port.now) (referred_by t.frame c.requires.begins (record { found = t.gets; plain = t.plain; stops = tt }) t.serves t.hand))
