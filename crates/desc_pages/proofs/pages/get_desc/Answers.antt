use Rattle.std.proofs.Common.{Err, ap, ◌∙◌}
use Rattle.std.proofs.lemmas.Result.{err_from_is_err_and}
use Rattle.desc_pages.proofs.Getting.{aside_then, had_gets, unreferred_gets, untaken_gets}
use Rattle.desc_pages.proofs.pages.get_desc.Goals as goal

-- ---- the reference is not to be had
pub returns-in_err-frame : goal.returns-in_err-frame
returns-in_err-frame g c =
    let r = c.in_err-frame.ensures in
    let answer = err_from_is_err_and c.from_residual.result c.from_residual.ensures.1 in
    unreferred_gets (g.P.Port.value c.args.port.now) (g.P.Port.value c.get_ref.new.port) c.args.f c.args.owner _ (answer.1 ∙ ap Err answer.2) r.serves r.hand r.kinds (record { found = r.gets; plain = r.plain; stops = r.stops })

-- ---- under it
pub take_desc-requires-clause-aside : goal.take_desc-requires-clause-aside
take_desc-requires-clause-aside g c =
    let r = c.in_ok-frame.ensures in
    aside_then (g.P.Port.value c.args.port.now) (g.P.Port.value c.get_ref.new.port) c.args.f c.args.owner c.in_ok-frame.frame r.frame.0 r.serves r.hand c.requires.locks c.requires.aside

pub returns-in_err-take_desc : goal.returns-in_err-take_desc
returns-in_err-take_desc g c =
    let r = c.in_ok-frame.ensures in
    let answer = err_from_is_err_and c.from_residual-in_err-take_desc.result c.from_residual-in_err-take_desc.ensures.1 in
    untaken_gets (g.P.Port.value c.args.port.now) (g.P.Port.value c.get_ref.new.port) c.args.f c.args.owner c.in_ok-frame.frame r.frame.0 r.serves r.hand (g.P.Port.value c.take_desc.new.port) _ (answer.1 ∙ ap Err answer.2) r.gets r.plain
    c.in_err-take_desc.ensures

pub returns : goal.returns
returns g c =
    let r = c.in_ok-frame.ensures in
    had_gets (g.P.Port.value c.args.port.now) (g.P.Port.value c.get_ref.new.port) c.args.f c.args.owner c.in_ok-frame.frame r.frame.0 r.serves r.hand (g.P.Port.value c.take_desc.new.port) r.frame.1 r.gets r.plain c.in_ok-take_desc.ensures
