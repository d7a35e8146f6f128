use Rattle.std.proofs.Common.{Err, ap, ◌∙◌}
use Rattle.std.proofs.lemmas.Result.{err_from_is_err_and}
use Rattle.whole_pages.proofs.Copied.{copied, unhad, unreferred}
use Rattle.whole_pages.proofs.Held.{apart_beside, fill_beside, held_still, may_drop, ref_gone}
use Rattle.whole_pages.proofs.copying.copy_page.Goals as goal

pub returns-in_err-target : goal.returns-in_err-target
returns-in_err-target g c =
    let p = err_from_is_err_and c.from_residual.result c.from_residual.ensures.1 in
    let t = c.in_err-target.ensures in
    unhad c.requires.rests c.requires.own (p.1 ∙ ap Err p.2) t.serves t.stops t.hand t.course

-- ---- the source is not to be had
pub drop_plain-requires-in-Err-clause-drops : goal.drop_plain-requires-in-Err-clause-drops
drop_plain-requires-in-Err-clause-drops g c =
    let v = g.P.Port.value c.args.port.now in
    let a = g.P.Port.value c.get_page.new.port in
    let b = g.P.Port.value c.get_ref.new.port in
    let f = c.in_ok-target.target in
    may_drop v b f c.args.domain c.requires.rests (held_still v a b b b f c.args.domain f c.in_ok-target.ensures.hand c.in-Err.ensures.hand)

pub returns-in-Err : goal.returns-in-Err
returns-in-Err g c =
    let t = c.in_ok-target.ensures in
    let r = c.in-Err.ensures in
    let drops = c.drop_plain-in-Err.ensures in
    unreferred c.requires.rests c.requires.own t.frame.0 t.serves t.course
    (record { typed = t.hand; back = drops.serves; gives = drops.hand; drops = record { found = drops.found; plain = drops.plain; stands = drops.stands } })
    r.serves r.kinds r.hand (record { found = r.gets; plain = r.plain; stops = r.stops })

-- ---- it is
pub copy_cells-requires-clause-fills : goal.copy_cells-requires-clause-fills
copy_cells-requires-clause-fills g c =
    fill_beside (g.P.Port.value c.args.port.now) (g.P.Port.value c.get_page.new.port) c.in_ok-target.target c.args.domain c.requires.rests c.in_ok-target.ensures.hand (g.P.Port.value c.get_ref.new.port) c.in-Ok.source c.in-Ok.ensures.hand

pub copy_cells-requires-clause-apart : goal.copy_cells-requires-clause-apart
copy_cells-requires-clause-apart g c =
    apart_beside (g.P.Port.value c.args.port.now) (g.P.Port.value c.get_page.new.port) c.in_ok-target.target c.args.domain c.requires.rests c.in_ok-target.ensures.hand (g.P.Port.value c.get_ref.new.port) c.in-Ok.source c.in-Ok.ensures.hand c.in-Ok.source

pub drop_plain-requires-clause-drops : goal.drop_plain-requires-clause-drops
drop_plain-requires-clause-drops g c =
    let v = g.P.Port.value c.args.port.now in
    let e = g.P.Port.value c.put_ref.new.port in
    let f = c.in_ok-target.target in
    may_drop v e f c.args.domain c.requires.rests
    (ref_gone v (g.P.Port.value c.get_page.new.port) (g.P.Port.value c.get_ref.new.port) (g.P.Port.value c.copy_cells.new.port) e f c.args.domain c.in-Ok.source c.in_ok-target.ensures.hand c.in-Ok.ensures.hand
    c.copy_cells.ensures.hand c.put_ref.ensures.hand)

pub returns-in-Ok : goal.returns-in-Ok
returns-in-Ok g c =
    let t = c.in_ok-target.ensures in
    let r = c.in-Ok.ensures in
    let p = c.put_ref.ensures in
    let drops = c.drop_plain.ensures in
    copied c.requires.rests c.requires.own t.frame.0 r.frame.0 t.serves t.course
    (record { typed = t.hand; back = drops.serves; gives = drops.hand; drops = record { found = drops.found; plain = drops.plain; stands = drops.stands } })
    r.serves
    (record {
      got = record { found = r.gets; plain = r.plain; stops = tt };
      refers = r.hand;
      cells = c.copy_cells.ensures;
      put = p.hand;
      puts = p.serves;
      gone = record { found = p.puts; plain = p.plain };
    })
