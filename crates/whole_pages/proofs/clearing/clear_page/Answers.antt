use Rattle.std.proofs.Common.{Err, ap, ◌∙◌}
use Rattle.std.proofs.lemmas.Result.{err_from_is_err_and}
use Rattle.whole_pages.proofs.Cleared.{cleared, unhad}
use Rattle.whole_pages.proofs.Held.{held_still, may_drop, may_fill}
use Rattle.whole_pages.proofs.clearing.clear_page.Goals as goal

pub returns-in_err-frame : goal.returns-in_err-frame
returns-in_err-frame g c =
    let p = err_from_is_err_and c.from_residual.result c.from_residual.ensures.1 in
    let t = c.in_err-frame.ensures in
    unhad c.requires.rests c.requires.own (p.1 ∙ ap Err p.2) t.serves t.stops t.hand t.course

pub clear_cells-requires-clause-fills : goal.clear_cells-requires-clause-fills
clear_cells-requires-clause-fills g c = may_fill (g.P.Port.value c.args.port.now) (g.P.Port.value c.get_page.new.port) c.in_ok-frame.frame c.args.domain c.requires.rests c.in_ok-frame.ensures.hand

pub drop_plain-requires-clause-drops : goal.drop_plain-requires-clause-drops
drop_plain-requires-clause-drops g c =
    let v = g.P.Port.value c.args.port.now in
    let a = g.P.Port.value c.get_page.new.port in
    let b = g.P.Port.value c.clear_cells.new.port in
    let f = c.in_ok-frame.frame in
    may_drop v b f c.args.domain c.requires.rests (held_still v a b b b f c.args.domain f c.in_ok-frame.ensures.hand c.clear_cells.ensures.hand)

pub returns : goal.returns
returns g c =
    let t = c.in_ok-frame.ensures in
    let drops = c.drop_plain.ensures in
    cleared c.requires.rests c.requires.own t.frame.0 t.serves t.course
    (record {
      typed = t.hand;
      cells = c.clear_cells.ensures;
      back = drops.serves;
      gives = drops.hand;
      drops = record { found = drops.found; plain = drops.plain; stands = drops.stands };
    })
