use Rattle.std.proofs.Common.{◌≡◌, Err, sym, ap, ◌∙◌, subst, arith, rules}
use Rattle.std.proofs.lemmas.Result.{err_from_is_err_and}
use Rattle.reservations.specs.Returning.{number_at}
use Rattle.reservations.proofs.Decreasing.{Decreases, nothing_decreased, one_more, stopped}
use Rattle.reservations.proofs.returning.decrease.Goals as goal

pub loop-at-init : goal.loop-at-init
loop-at-init g c = record { most = omega arith; so = nothing_decreased (g.P.Port.value c.args.port.now) c.args.owner c.args.size c.args.first c.args.at.now }

pub loop-at-preserved : goal.loop-at-preserved
loop-at-preserved g c =
    let done = c.in_ok-return_frame.ensures in
    let is : c.saturating_add.result ≡ number_at c.args.first c.loop-at.at = c.saturating_add.ensures ∙ ap (number_at c.args.first) c.from.ensures in
    record {
      most = omega (arith, c.loop-at-test.true);
      so = one_more c.loop-at.invariant.so (g.P.Port.value c.return_frame.new.port) is c.loop-at-test.true c.ranges.first.fits c.requires.rests.may.machine.few_frames done.serves done.hand done.found done.plain;
    }

pub returns-in_err-return_frame : goal.returns-in_err-return_frame
returns-in_err-return_frame g c =
    let v = g.P.Port.value c.args.port.now in
    let w = g.P.Port.value c.return_frame.new.port in
    let done = c.in_err-return_frame.ensures in
    let is : c.saturating_add.result ≡ number_at c.args.first c.loop-at.at = c.saturating_add.ensures ∙ ap (number_at c.args.first) c.from.ensures in
    let answer = err_from_is_err_and c.from_residual.result c.from_residual.ensures.1 in
    let all = subst (Decreases v w c.args.owner c.args.size c.args.first c.args.at.now c.loop-at.at) (sym (answer.1 ∙ ap Err answer.2))
    (stopped c.loop-at.invariant.so w is c.loop-at-test.true c.ranges.first.fits c.in_err-return_frame.field-0.0 done.serves done.stops done.kinds done.hand done.found done.plain) in
    record { serves = all.serves; stops = all.stops; kinds = all.kinds; place = search rules; hand = all.hand; found = all.found; plain = all.plain }
