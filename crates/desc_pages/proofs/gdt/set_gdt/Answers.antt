use Rattle.std.proofs.Common.{Err, sym, ap, ◌∙◌}
use Rattle.std.proofs.lemmas.Result.{err_from_is_err_and}
use Rattle.desc_pages.proofs.Setting.{bad_sets, sets, untaken_sets}
use Rattle.desc_pages.proofs.gdt.set_gdt.Goals as goal

pub returns-then-is_bad_gdt : goal.returns-then-is_bad_gdt
returns-then-is_bad_gdt g c = bad_sets (g.P.Port.value c.args.port.now) c.args.entries c.args.frames.now (sym c.is_bad_gdt.ensures ∙ c.if-is_bad_gdt.true) c.requires.rests

pub returns : goal.returns
returns g c =
    let v = g.P.Port.value c.args.port.now in
    sets v (g.P.Port.value c.take_pages.new.port) c.args.entries c.args.frames.now c.requires.rests c.in_ok-take_pages.ensures (g.P.Port.value c.name_pages.new.port) c.name_pages.ensures
    (sym c.is_bad_gdt.ensures ∙ c.if-is_bad_gdt.false)

pub returns-in_err-take_pages : goal.returns-in_err-take_pages
returns-in_err-take_pages g c =
    let answer = err_from_is_err_and c.from_residual.result c.from_residual.ensures.1 in
    untaken_sets (g.P.Port.value c.args.port.now) (g.P.Port.value c.take_pages.new.port) c.args.entries c.args.frames.now _ (answer.1 ∙ ap Err answer.2) (sym c.is_bad_gdt.ensures ∙ c.if-is_bad_gdt.false) c.requires.rests c.in_err-take_pages.ensures
