use Rattle.std.proofs.Common.{refl, arith, ◌∙◌}
use Rattle.xp_preempt.proofs.Consulting.{past_as, past_none}
use Rattle.vcpu_turn.specs.Lists.{none}
use Rattle.vcpu_turn.proofs.Going.{gate_done, gate_due, gate_more, gate_stop}
use Rattle.vcpu_turn.proofs.Listing.{works_none}
use Rattle.vcpu_turn.proofs.lists.go_on.Goals as goal

pub loop-done-init : goal.loop-done-init
loop-done-init g c = record { did = past_none refl none; most = c.requires.within; post = refl; suits = c.requires.suits; rests = c.requires.rests }

pub returns-in_err-element-clause-works : goal.returns-in_err-element-clause-works
returns-in_err-element-clause-works g c =
    let below = c.loop-done-test.true in
    let len = c.len.ensures in
    gate_stop c.loop-done.invariant.did _ _ c.from_residual.ensures.1 (omega (arith, below, len)) c.in_err-element.ensures.fits

pub returns-then-done-len-clause-works : goal.returns-then-done-len-clause-works
returns-then-done-len-clause-works g c = gate_done c.loop-done.invariant.did c.in_ok-element.ensures.fits (c.if-done-len.true ∙ c.len-in-loop-done.ensures)

pub returns-then-due-clause-works : goal.returns-then-due-clause-works
returns-then-due-clause-works g c =
    let below = c.loop-done-test.true in
    let len = c.len.ensures in
    let len2 = c.len-in-loop-done.ensures in
    let off = c.if-done-len.false in
    gate_due c.loop-done.invariant.did c.in_ok-element.ensures.fits (omega (arith, below, len, len2, off)) c.if-due.ensures

pub returns-clause-works : goal.returns-clause-works
returns-clause-works g c =
    let past = c.loop-done-test.false in
    let len = c.len.ensures in
    let most = c.loop-done.invariant.most in
    past_as (λ due. due) (λ answers did. works_none _ _ _ _ _ _ _ did (omega (arith, past, len, most))) c.loop-done.invariant.did

pub loop-done-preserved : goal.loop-done-preserved
loop-done-preserved g c =
    let below = c.loop-done-test.true in
    let len = c.len.ensures in
    let len2 = c.len-in-loop-done.ensures in
    let off = c.if-done-len.false in
    let inv = c.loop-done.invariant in
    let element = c.in_ok-element.ensures in
    record {
      did = gate_more inv.did element.fits (omega (arith, below, len, len2, off)) c.if-due.ensures;
      most = omega (arith, below, len);
      post = element.post ∙ inv.post;
      suits = element.suits;
      rests = element.rests;
    }
