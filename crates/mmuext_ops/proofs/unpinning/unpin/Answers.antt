use Rattle.std.proofs.Common.{Err, refl, ap, ◌∙◌}
use Rattle.table_words.specs.Pins.{took_pin}
use Rattle.xp_board.specs.Told.{PortValue}
use Rattle.kind_words.specs.Kinds.{looked_at}
use Rattle.frame_words.specs.Freeing.{gave}
use Rattle.flush_words.proofs.Shared.{may_held}
use Rattle.std.proofs.lemmas.Result.{err_from_is_err_and}
use Rattle.std.proofs.lemmas.Bool.{not-false, not-true}
use Rattle.mmuext_ops.proofs.Looked as look
use Rattle.mmuext_ops.proofs.Looked.{Looked, fits, gave_back, read_some, spelled, held_inside, looked_inside, looked_may, looked_room}
use Rattle.mmuext_ops.proofs.UnpinCourse.{holds, lost, raced, released, seen, unreferred}
use Rattle.table_words.proofs.PinWords.{may_unpin}
use Rattle.mmuext_ops.proofs.Unpinned.{found_some}
use Rattle.mmuext_ops.proofs.unpinning.unpin.Goals.{After-read_kind-kind}
use Rattle.mmuext_ops.proofs.unpinning.unpin.Given.{Over}
use Rattle.mmuext_ops.proofs.unpinning.unpin.Goals as goal

saw : (g : Over) (c : After-read_kind-kind g) →
    Looked (g.P.Port.value c.args.port.now) (g.P.Port.value c.get_ref.new.port) (g.P.Port.value c.look_kind-found.new.port) c.args.f c.args.domain c.in_ok-frame.frame c.look_kind-found.result c.read_kind-kind.result
saw g c = let e = c.in_ok-frame.ensures in look.seen (g.P.Port.value c.args.port.now) c.args.domain e.frame e.serves e.hand e.gets e.plain c.look_kind-found.ensures.moves c.look_kind-found.ensures.hand c.read_kind-kind.ensures

pub returns-in_err-frame : goal.returns-in_err-frame
returns-in_err-frame g c =
    let answer = err_from_is_err_and c.from_residual.result c.from_residual.ensures.1 in
    unreferred c.requires.rests (answer.1 ∙ ap Err answer.2) c.in_err-frame.ensures.serves c.in_err-frame.ensures.kinds c.in_err-frame.ensures.hand
    (record { found = c.in_err-frame.ensures.gets; plain = c.in_err-frame.ensures.plain; stops = c.in_err-frame.ensures.stops })

pub read_kind-kind-requires : goal.read_kind-kind-requires
read_kind-kind-requires g c = read_some (g.P.Port.value c.args.port.now) c.args.domain c.in_ok-frame.ensures.frame.1 c.in_ok-frame.ensures.hand c.look_kind-found.ensures.moves

pub put_ref-requires-clause-frame : goal.put_ref-requires-clause-frame
put_ref-requires-clause-frame g c = looked_inside (saw g (goal.at.put_ref-requires-clause-frame g c).After-read_kind-kind)

pub put_ref-requires-clause-may : goal.put_ref-requires-clause-may
put_ref-requires-clause-may g c = looked_may (saw g (goal.at.put_ref-requires-clause-may g c).After-read_kind-kind) c.requires.rests.may

pub returns-then-not-kind : goal.returns-then-not-kind
returns-then-not-kind g c =
    let back = gave_back c.put_ref.ensures.serves c.put_ref.ensures.hand c.put_ref.ensures.puts c.put_ref.ensures.plain in
    seen c.requires.rests (saw g (goal.at.returns-then-not-kind g c).After-read_kind-kind) back (not-true c.read_kind-kind.result.pinned c.if-not-kind.true)

pub clear_pin-requires-clause-frame : goal.clear_pin-requires-clause-frame
clear_pin-requires-clause-frame g c = looked_inside (saw g (goal.at.clear_pin-requires-clause-frame g c).After-read_kind-kind)

pub clear_pin-requires-clause-may : goal.clear_pin-requires-clause-may
clear_pin-requires-clause-may g c = looked_may (saw g (goal.at.clear_pin-requires-clause-may g c).After-read_kind-kind) c.requires.rests.may

pub clear_pin-requires-clause-is : goal.clear_pin-requires-clause-is
clear_pin-requires-clause-is g c = spelled (saw g (goal.at.clear_pin-requires-clause-is g c).After-read_kind-kind)

pub clear_pin-requires-clause-fits : goal.clear_pin-requires-clause-fits
clear_pin-requires-clause-fits g c = fits (saw g (goal.at.clear_pin-requires-clause-fits g c).After-read_kind-kind)

pub clear_pin-requires-clause-unpins : goal.clear_pin-requires-clause-unpins
clear_pin-requires-clause-unpins g c = may_unpin c.read_kind-kind.result (spelled (saw g (goal.at.clear_pin-requires-clause-unpins g c).After-read_kind-kind)) (not-false c.read_kind-kind.result.pinned c.if-not-kind.false)

pub put_ref-requires-in-Ok-clause-frame : goal.put_ref-requires-in-Ok-clause-frame
put_ref-requires-in-Ok-clause-frame g c =
    let b = g.P.Port.value c.look_kind-found.new.port in
    held_inside b (g.P.Port.value c.clear_pin.new.port) (took_pin c.in_ok-frame.frame c.read_kind-kind.result b.holdings) c.in-Ok.ensures.hand (looked_inside (saw g (goal.at.put_ref-requires-in-Ok-clause-frame g c).After-read_kind-kind))

pub put_ref-requires-in-Ok-clause-may : goal.put_ref-requires-in-Ok-clause-may
put_ref-requires-in-Ok-clause-may g c =
    let b = g.P.Port.value c.look_kind-found.new.port in
    may_held b (g.P.Port.value c.clear_pin.new.port) (took_pin c.in_ok-frame.frame c.read_kind-kind.result b.holdings) c.in-Ok.ensures.hand refl refl (looked_may (saw g (goal.at.put_ref-requires-in-Ok-clause-may g c).After-read_kind-kind) c.requires.rests.may)

pub release-requires-clause-frame : goal.release-requires-clause-frame
release-requires-clause-frame g c =
    let b = g.P.Port.value c.look_kind-found.new.port in
    let x = g.P.Port.value c.clear_pin.new.port in
    held_inside x (g.P.Port.value c.put_ref-in-Ok.new.port) (gave c.in_ok-frame.frame x.holdings) c.put_ref-in-Ok.ensures.hand
    (held_inside b x (took_pin c.in_ok-frame.frame c.read_kind-kind.result b.holdings) c.in-Ok.ensures.hand (looked_inside (saw g (goal.at.release-requires-clause-frame g c).After-read_kind-kind)))

pub release-requires-clause-may : goal.release-requires-clause-may
release-requires-clause-may g c =
    let b = g.P.Port.value c.look_kind-found.new.port in
    let x = g.P.Port.value c.clear_pin.new.port in
    may_held x (g.P.Port.value c.put_ref-in-Ok.new.port) (gave c.in_ok-frame.frame x.holdings) c.put_ref-in-Ok.ensures.hand refl refl
    (may_held b x (took_pin c.in_ok-frame.frame c.read_kind-kind.result b.holdings) c.in-Ok.ensures.hand refl refl (looked_may (saw g (goal.at.release-requires-clause-may g c).After-read_kind-kind) c.requires.rests.may))

pub release-requires-clause-room : goal.release-requires-clause-room
release-requires-clause-room g c =
    ap (λ (q : PortValue). q.holdings.old0) c.put_ref-in-Ok.ensures.hand ∙ ap (λ (q : PortValue). q.holdings.old0) c.in-Ok.ensures.hand
    ∙ looked_room (saw g (goal.at.release-requires-clause-room g c).After-read_kind-kind) c.requires.room

pub release-requires-clause-holds : goal.release-requires-clause-holds
release-requires-clause-holds g c =
    let back = gave_back c.put_ref-in-Ok.ensures.serves c.put_ref-in-Ok.ensures.hand c.put_ref-in-Ok.ensures.puts c.put_ref-in-Ok.ensures.plain in
    holds c.requires.rests (saw g (goal.at.release-requires-clause-holds g c).After-read_kind-kind) (not-false c.read_kind-kind.result.pinned c.if-not-kind.false) c.in-Ok.ensures.moves refl c.in-Ok.ensures.hand (g.P.Port.value c.put_ref-in-Ok.new.port) back

pub returns-in-Ok-release : goal.returns-in-Ok-release
returns-in-Ok-release g c =
    let r = c.release.ensures in
    let back = gave_back c.put_ref-in-Ok.ensures.serves c.put_ref-in-Ok.ensures.hand c.put_ref-in-Ok.ensures.puts c.put_ref-in-Ok.ensures.plain in
    released c.requires.rests (saw g (goal.at.returns-in-Ok-release g c).After-read_kind-kind) (not-false c.read_kind-kind.result.pinned c.if-not-kind.false) c.in-Ok.ensures.moves refl c.in-Ok.ensures.hand (g.P.Port.value c.put_ref-in-Ok.new.port) back (r.serves c.args.domain c.args.domain) r.kinds r.hand r.course

pub returns-in-Ok-release-2 : goal.returns-in-Ok-release-2
returns-in-Ok-release-2 g c =
    let r = c.release.ensures in
    let back = gave_back c.put_ref-in-Ok.ensures.serves c.put_ref-in-Ok.ensures.hand c.put_ref-in-Ok.ensures.puts c.put_ref-in-Ok.ensures.plain in
    released c.requires.rests (saw g (goal.at.returns-in-Ok-release-2 g c).After-read_kind-kind) (not-false c.read_kind-kind.result.pinned c.if-not-kind.false) c.in-Ok.ensures.moves refl c.in-Ok.ensures.hand (g.P.Port.value c.put_ref-in-Ok.new.port) back (r.serves c.args.domain c.args.domain) r.kinds r.hand r.course

pub put_ref-requires-in-Err-clause-frame : goal.put_ref-requires-in-Err-clause-frame
put_ref-requires-in-Err-clause-frame g c =
    let b = g.P.Port.value c.look_kind-found.new.port in
    held_inside b (g.P.Port.value c.clear_pin.new.port) (looked_at c.in_ok-frame.frame c.in-Err.found_now b.holdings) c.in-Err.ensures.hand (looked_inside (saw g (goal.at.put_ref-requires-in-Err-clause-frame g c).After-read_kind-kind))

pub put_ref-requires-in-Err-clause-may : goal.put_ref-requires-in-Err-clause-may
put_ref-requires-in-Err-clause-may g c =
    let b = g.P.Port.value c.look_kind-found.new.port in
    may_held b (g.P.Port.value c.clear_pin.new.port) (looked_at c.in_ok-frame.frame c.in-Err.found_now b.holdings) c.in-Err.ensures.hand refl refl (looked_may (saw g (goal.at.put_ref-requires-in-Err-clause-may g c).After-read_kind-kind) c.requires.rests.may)

pub read_kind-requires : goal.read_kind-requires
read_kind-requires g c = found_some (saw g (goal.at.read_kind-requires g c).After-read_kind-kind) c.in-Err.ensures.moves

pub returns-then-read_kind : goal.returns-then-read_kind
returns-then-read_kind g c =
    let back = gave_back c.put_ref-in-Err.ensures.serves c.put_ref-in-Err.ensures.hand c.put_ref-in-Err.ensures.puts c.put_ref-in-Err.ensures.plain in
    lost c.requires.rests (saw g (goal.at.returns-then-read_kind g c).After-read_kind-kind) (not-false c.read_kind-kind.result.pinned c.if-not-kind.false) c.in-Err.ensures.moves c.in-Err.ensures.lost c.in-Err.ensures.hand back c.read_kind.ensures c.lost.ensures c.if-read_kind.true

pub returns-else-read_kind : goal.returns-else-read_kind
returns-else-read_kind g c =
    let back = gave_back c.put_ref-in-Err.ensures.serves c.put_ref-in-Err.ensures.hand c.put_ref-in-Err.ensures.puts c.put_ref-in-Err.ensures.plain in
    raced c.requires.rests (saw g (goal.at.returns-else-read_kind g c).After-read_kind-kind) (not-false c.read_kind-kind.result.pinned c.if-not-kind.false) c.in-Err.ensures.moves c.in-Err.ensures.lost c.in-Err.ensures.hand back c.read_kind.ensures c.if-read_kind.false
