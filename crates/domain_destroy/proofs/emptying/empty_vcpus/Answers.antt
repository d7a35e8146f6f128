use Rattle.std.proofs.Common.{◌∙◌, length, ap, arith}
use Rattle.std.proofs.lemmas.Result.{err_from_is_err_and}
use Rattle.xp_words.specs.Machine.{Machine}
use Rattle.domain_destroy.proofs.Gating.{phase_due, phase_none, phase_on, phase_over, phase_stopped}
use Rattle.domain_destroy.proofs.OneVcpu.{emptied_due}
use Rattle.domain_destroy.specs.Course as course
use Rattle.domain_destroy.specs.declared.place.DestroyAt.TheVariants.{Empties}
use Rattle.domain_destroy.proofs.emptying.empty_vcpus.Goals as goal

pub loop-at-init : goal.loop-at-init
loop-at-init g c =
    record {
      come = c.requires.come;
      went = phase_none (g.P.Port.value c.args.port.now) c.args.domain (Empties c.args.at.now) c.requires.rests c.requires.clear;
    }

pub returns-in_err-passed-clause-went : goal.returns-in_err-passed-clause-went
returns-in_err-passed-clause-went g c =
    let answer = err_from_is_err_and c.from_residual.result c.from_residual.ensures.1 in
    let all = c.vcpus.ensures.vcpus ∙ ap (λ (n : Machine). length n.vcpu_domain) c.layout.ensures.layout in
    let below = c.loop-at-test.true in
    rw (answer.1, answer.2) (phase_stopped c.loop-at.invariant.went (λ more. course.Advances.unemptied _ _ more _ (omega (arith, all, below))) c.in_err-passed.ensures.went)

pub returns-then-due-clause-went : goal.returns-then-due-clause-went
returns-then-due-clause-went g c =
    let all = c.vcpus.ensures.vcpus ∙ ap (λ (n : Machine). length n.vcpu_domain) c.layout.ensures.layout in
    let below = c.loop-at-test.true in
    let one = c.in_ok-passed.ensures in
    phase_due c.loop-at.invariant.went c.if-passed.true one.passed (emptied_due (omega (arith, all, below)) c.if-passed.true) one.went c.if-due.ensures

pub loop-at-preserved-else-due : goal.loop-at-preserved-else-due
loop-at-preserved-else-due g c =
    let all = c.vcpus.ensures.vcpus ∙ ap (λ (n : Machine). length n.vcpu_domain) c.layout.ensures.layout in
    let below = c.loop-at-test.true in
    let one = c.in_ok-passed.ensures in
    record {
      come = one.come;
      went = phase_on c.loop-at.invariant.went c.if-passed.true (λ more. course.Advances.emptied _ _ more _ (omega (arith, all, below))) one.went c.if-due.ensures;
    }

pub loop-at-preserved : goal.loop-at-preserved
loop-at-preserved g c =
    let all = c.vcpus.ensures.vcpus ∙ ap (λ (n : Machine). length n.vcpu_domain) c.layout.ensures.layout in
    let below = c.loop-at-test.true in
    let one = c.in_ok-passed.ensures in
    record {
      come = one.come;
      went = phase_over c.loop-at.invariant.went c.if-passed.false (λ more. course.Advances.emptied _ _ more _ (omega (arith, all, below))) one.went;
    }
