use Rattle.std.proofs.Common.{Err, ap, ◌∙◌}
use Rattle.std.proofs.lemmas.Result.{err_from_is_err_and}
use Rattle.mmuext_ops.specs.Course.{IsPinnedAs}
use Rattle.mmuext_ops.proofs.Looked as look
use Rattle.mmuext_ops.proofs.Looked.{Looked, fields, gave_back, read_some}
use Rattle.mmuext_ops.proofs.PinCourse.{holds, live, refused, seen, unreferred}
use Rattle.mmuext_ops.proofs.Types.{other_mark, other_type, same_is}
use Rattle.mmuext_ops.proofs.pinning.pin.Goals.{After-read_kind-kind, else-kind-via-then-kind+else-eq, else-kind-via-else-kind}
use Rattle.mmuext_ops.proofs.pinning.pin.Given.{Over}
use Rattle.mmuext_ops.proofs.pinning.pin.Goals as goal

saw : (g : Over) (c : After-read_kind-kind g) →
    Looked (g.P.Port.value c.args.port.now) (g.P.Port.value c.get_ref.new.port) (g.P.Port.value c.look_kind-found.new.port) c.args.f c.args.domain c.in_ok-frame.frame c.look_kind-found.result c.read_kind-kind.result
saw g c = let e = c.in_ok-frame.ensures in look.seen (g.P.Port.value c.args.port.now) c.args.domain e.frame e.serves e.hand e.gets e.plain c.look_kind-found.ensures.moves c.look_kind-found.ensures.hand c.read_kind-kind.ensures

pub returns-in_err-frame : goal.returns-in_err-frame
returns-in_err-frame g c =
    let answer = err_from_is_err_and c.from_residual.result c.from_residual.ensures.1 in
    unreferred c.requires.rests (answer.1 ∙ ap Err answer.2) c.in_err-frame.ensures.serves c.in_err-frame.ensures.kinds c.in_err-frame.ensures.hand
    (record { found = c.in_err-frame.ensures.gets; plain = c.in_err-frame.ensures.plain; stops = c.in_err-frame.ensures.stops })

pub read_kind-kind-requires : goal.read_kind-kind-requires
read_kind-kind-requires g c = read_some (g.P.Port.value c.args.port.now) c.args.domain c.in_ok-frame.ensures.frame.1 c.in_ok-frame.ensures.hand c.look_kind-found.ensures.moves

pub returns-then-eq : goal.returns-then-eq
returns-then-eq g c =
    seen c.requires.rests (saw g (goal.at.returns-then-eq g c).After-read_kind-kind) (gave_back c.put_ref.ensures.serves c.put_ref.ensures.hand c.put_ref.ensures.puts c.put_ref.ensures.plain) c.if-kind.true
    (same_is c.read_kind-kind.result.kind c.level_type.result c.if-eq.ensures ∙ c.level_type.ensures)

pub returns-in_err-frame-2 : goal.returns-in_err-frame-2
returns-in_err-frame-2 g c =
    let a = c.in_err-frame-2.ensures in
    let back = gave_back c.put_ref.ensures.serves c.put_ref.ensures.hand c.put_ref.ensures.puts c.put_ref.ensures.plain in
    let answer = err_from_is_err_and c.from_residual-in_err-frame-2.result c.from_residual-in_err-frame-2.ensures.1 in
    let other : IsPinnedAs c.args.level c.look_kind-found.result → ⊥ =
    elim c.else-kind.branch [
      | else-kind-via-then-kind+else-eq y ↦ other_type c.args.level c.look_kind-found.result (fields (saw g (goal.at.returns-in_err-frame-2 g c).After-read_kind-kind)) y.level_type.ensures y.eq.ensures y.if-eq.false
      | else-kind-via-else-kind y ↦ other_mark c.args.level c.look_kind-found.result (fields (saw g (goal.at.returns-in_err-frame-2 g c).After-read_kind-kind)) y.if-kind.false
    ] in
    refused c.requires.rests (saw g (goal.at.returns-in_err-frame-2 g c).After-read_kind-kind) (g.P.Port.value c.put_ref.new.port) back c.requires.own other (answer.1 ∙ ap Err answer.2) (a.serves c.args.domain) (a.stops c.args.domain) a.kinds a.hand a.course

pub pin_live-requires-clause-holds : goal.pin_live-requires-clause-holds
pin_live-requires-clause-holds g c =
    let back = gave_back c.put_ref.ensures.serves c.put_ref.ensures.hand c.put_ref.ensures.puts c.put_ref.ensures.plain in
    holds c.requires.rests (saw g (goal.at.pin_live-requires-clause-holds g c).After-read_kind-kind) (g.P.Port.value c.put_ref.new.port) back c.requires.own c.in_ok-frame-2.ensures.hand

pub returns : goal.returns
returns g c =
    let a = c.in_ok-frame-2.ensures in
    let back = gave_back c.put_ref.ensures.serves c.put_ref.ensures.hand c.put_ref.ensures.puts c.put_ref.ensures.plain in
    let other : IsPinnedAs c.args.level c.look_kind-found.result → ⊥ =
    elim c.else-kind.branch [
      | else-kind-via-then-kind+else-eq y ↦ other_type c.args.level c.look_kind-found.result (fields (saw g (goal.at.returns g c).After-read_kind-kind)) y.level_type.ensures y.eq.ensures y.if-eq.false
      | else-kind-via-else-kind y ↦ other_mark c.args.level c.look_kind-found.result (fields (saw g (goal.at.returns g c).After-read_kind-kind)) y.if-kind.false
    ] in
    live c.requires.rests (saw g (goal.at.returns g c).After-read_kind-kind) (g.P.Port.value c.put_ref.new.port) back c.requires.own other a.frame.0 (a.serves c.args.domain) a.hand a.course c.pin_live.ensures
