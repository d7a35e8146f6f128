use Rattle.std.proofs.Common.{Err, ap, ◌∙◌, rules}
use Rattle.std.proofs.lemmas.Result.{err_from_is_err_and}
use Rattle.writable_pages.proofs.Got.{had_ends, no_type, no_work, refused_ends, unreferred_ends}
use Rattle.writable_pages.proofs.taking.get_page.Goals as goal

-- ---- the reference is not to be had
pub returns-in_err-frame : goal.returns-in_err-frame
returns-in_err-frame g c =
    let r = c.in_err-frame.ensures in
    let answer = err_from_is_err_and c.from_residual.result c.from_residual.ensures.1 in
    let e = unreferred_ends (g.P.Port.value c.args.port.now) (g.P.Port.value c.get_ref.new.port) c.args.f c.args.owner (answer.1 ∙ ap Err answer.2) r.serves r.hand (record { found = r.gets; plain = r.plain; stops = r.stops }) in
    record { came = e.came; frame = search rules; serves = e.serves; stops = e.stops; hand = e.hand; course = e.course }

-- ---- it is not to be had as ordinary memory
pub take_page-requires-clause-apart : goal.take_page-requires-clause-apart
take_page-requires-clause-apart g c =
    let r = c.in_ok-frame.ensures in
    let u = g.P.Port.value c.get_ref.new.port in
    no_work (g.P.Port.value c.args.port.now) u u c.args.f c.args.owner c.in_ok-frame.frame r.frame.0 r.serves r.hand c.requires.works

pub take_page-requires-clause-untyped : goal.take_page-requires-clause-untyped
take_page-requires-clause-untyped g c =
    let r = c.in_ok-frame.ensures in
    let u = g.P.Port.value c.get_ref.new.port in
    no_type (g.P.Port.value c.args.port.now) u u c.args.f c.args.owner c.in_ok-frame.frame r.frame.0 r.serves r.hand c.requires.typed

pub returns-in_err-take_page : goal.returns-in_err-take_page
returns-in_err-take_page g c =
    let r = c.in_ok-frame.ensures in
    let t = c.in_err-take_page.ensures in
    let answer = err_from_is_err_and c.from_residual-in_err-take_page.result c.from_residual-in_err-take_page.ensures.1 in
    let e = refused_ends (g.P.Port.value c.args.port.now) (g.P.Port.value c.get_ref.new.port) (g.P.Port.value c.take_page.new.port) c.args.f c.args.owner c.in_ok-frame.frame r.frame.0 r.serves r.hand
    (answer.1 ∙ ap Err answer.2) r.gets r.plain t.came t.serves t.stops t.kinds t.hand t.course in
    record { came = e.came; frame = search rules; serves = e.serves; stops = e.stops; hand = e.hand; course = e.course }

-- ---- it is
pub returns : goal.returns
returns g c =
    let r = c.in_ok-frame.ensures in
    let t = c.in_ok-take_page.ensures in
    let e = had_ends (g.P.Port.value c.args.port.now) (g.P.Port.value c.get_ref.new.port) (g.P.Port.value c.take_page.new.port) c.args.f c.args.owner c.in_ok-frame.frame r.frame.0 r.serves r.hand r.gets r.plain t.came t.serves t.hand t.course in
    record { came = e.came; frame = r.frame; serves = e.serves; stops = e.stops; hand = e.hand; course = e.course }
