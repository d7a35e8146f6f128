use Rattle.std.proofs.lemmas.Result.{err_from_is_err_and}
use Rattle.mmu_update.proofs.Holding.{may_drop, may_write, no_type, no_work}
use Rattle.mmu_update.proofs.Memory.{lent, stored, untaken}
use Rattle.mmu_update.proofs.elements.write_memory.Goals as goal

pub take_page-requires-clause-apart : goal.take_page-requires-clause-apart
take_page-requires-clause-apart g c = let a = c.requires.ordinary.1 in no_work c.requires.ordinary.0 (g.P.Port.value c.args.port.now) c.args.frame c.args.owners.tables a.referred.begins.rests (lent a)

pub take_page-requires-clause-untyped : goal.take_page-requires-clause-untyped
take_page-requires-clause-untyped g c =
    let a = c.requires.ordinary.1 in no_type c.requires.ordinary.0 (g.P.Port.value c.args.port.now) c.args.frame c.args.owners.tables a.referred.begins.rests (lent a)

pub returns-in_err-take_page-clause-writes : goal.returns-in_err-take_page-clause-writes
returns-in_err-take_page-clause-writes g c = λ b keep a.
    let p = err_from_is_err_and c.from_residual.result c.from_residual.ensures.1 in
    let t = c.in_err-take_page.ensures in
    rw (p.1, p.2) (untaken a t.serves t.stops t.kinds t.hand t.course)

pub store_cell-requires-clause-writes : goal.store_cell-requires-clause-writes
store_cell-requires-clause-writes g c =
    let a = c.requires.ordinary.1 in
    may_write c.requires.ordinary.0 (g.P.Port.value c.args.port.now) c.args.frame c.args.owners.tables a.referred.begins.rests (lent a)
    (g.P.Port.value c.take_page.new.port) c.in_ok-take_page.ensures.hand c.args.word

pub drop_plain-requires-clause-drops : goal.drop_plain-requires-clause-drops
drop_plain-requires-clause-drops g c =
    let a = c.requires.ordinary.1 in
    may_drop c.requires.ordinary.0 (g.P.Port.value c.args.port.now) (g.P.Port.value c.take_page.new.port)
    (g.P.Port.value c.store_cell.new.port) c.args.frame c.args.owners.tables a.referred.begins.rests (lent a)
    c.in_ok-take_page.ensures.hand c.store_cell.ensures.hand

pub returns-clause-writes : goal.returns-clause-writes
returns-clause-writes g c = λ b keep a.
    let t = c.in_ok-take_page.ensures in
    let made = c.store_cell.ensures in
    let drops = c.drop_plain.ensures in
    stored a t.serves t.hand t.course made.moves made.hand drops.serves drops.hand (record { found = drops.found; plain = drops.plain; stands = drops.stands })
