use Rattle.std.proofs.Common.{◌∙◌, ap, arith}
use Rattle.std.proofs.lemmas.Result.{err_from_is_err_and}
use Rattle.xp_words.specs.Machine.{Machine}
use Rattle.domain_destroy.specs.Course as course
use Rattle.domain_destroy.specs.declared.place.DestroyAt.TheVariants.{Clears}
use Rattle.domain_destroy.proofs.Cleared.{cleared_due}
use Rattle.domain_destroy.proofs.Gating.{phase_due, phase_none, phase_on, phase_over, phase_stopped}
use Rattle.domain_destroy.proofs.clearing.clear_frames.Goals as goal

pub loop-at-init : goal.loop-at-init
loop-at-init g c =
    record {
      come = λ since y. y;
      went = phase_none (g.P.Port.value c.args.port.now) c.args.domain (Clears c.args.at.now) c.requires.rests c.requires.clear;
    }

pub clear_frame-requires-clause-come : goal.clear_frame-requires-clause-come
clear_frame-requires-clause-come g c = (c.requires.come.0, c.loop-at.invariant.come c.requires.come.0 c.requires.come.1)

-- ---- one frame stops it
pub returns-in_err-passed-clause-come : goal.returns-in_err-passed-clause-come
returns-in_err-passed-clause-come g c since y = c.clear_frame.ensures.stays since (c.loop-at.invariant.come since y)

pub returns-in_err-passed-clause-went : goal.returns-in_err-passed-clause-went
returns-in_err-passed-clause-went g c =
    let answer = err_from_is_err_and c.from_residual.result c.from_residual.ensures.1 in
    let frames = ap (λ (n : Machine). n.frames) (c.behind-port.view_is ∙ c.layout.ensures.layout) in
    let below = c.loop-at-test.true in
    rw (answer.1, answer.2) (phase_stopped c.loop-at.invariant.went (λ more. course.Advances.uncleared _ _ more _ (omega (arith, frames, below))) c.in_err-passed.ensures.went)

-- ---- the gate pauses it
pub returns-then-due-clause-come : goal.returns-then-due-clause-come
returns-then-due-clause-come g c since y = c.in_ok-passed.ensures.come since (c.loop-at.invariant.come since y)

pub returns-then-due-clause-went : goal.returns-then-due-clause-went
returns-then-due-clause-went g c =
    let frames = ap (λ (n : Machine). n.frames) (c.behind-port.view_is ∙ c.layout.ensures.layout) in
    let below = c.loop-at-test.true in
    let one = c.in_ok-passed.ensures in
    phase_due c.loop-at.invariant.went c.if-passed.true one.passed (cleared_due (omega (arith, frames, below)) c.if-passed.true) one.went c.if-due.ensures

-- ---- it goes on
pub loop-at-preserved-else-due : goal.loop-at-preserved-else-due
loop-at-preserved-else-due g c =
    let frames = ap (λ (n : Machine). n.frames) (c.behind-port.view_is ∙ c.layout.ensures.layout) in
    let below = c.loop-at-test.true in
    let one = c.in_ok-passed.ensures in
    let so = c.loop-at.invariant in
    record {
      come = λ since y. one.come since (so.come since y);
      went = phase_on so.went c.if-passed.true (λ more. course.Advances.cleared _ _ more _ (omega (arith, frames, below))) one.went c.if-due.ensures;
    }

pub loop-at-preserved : goal.loop-at-preserved
loop-at-preserved g c =
    let frames = ap (λ (n : Machine). n.frames) (c.behind-port.view_is ∙ c.layout.ensures.layout) in
    let below = c.loop-at-test.true in
    let one = c.in_ok-passed.ensures in
    let so = c.loop-at.invariant in
    record {
      come = λ since y. one.come since (so.come since y);
      went = phase_over so.went c.if-passed.false (λ more. course.Advances.cleared _ _ more _ (omega (arith, frames, below))) one.went;
    }
