use Rattle.std.proofs.Common.{◌-◌, [], length, false, Ok}
use Rattle.domain_destroy.specs.Destroying.{PhaseWent}
use Rattle.domain_destroy.specs.declared.place.DestroyAt.TheVariants.{Empties}
use Rattle.domain_destroy.proofs.OneVcpu.{EmptyAt}
use Rattle.domain_destroy.proofs.emptying.empty_vcpus.Given as goal
use Rattle.xp_preempt.specs.Gates.{Gated}

abbrev pub invariant-loop-at : goal.invariant-loop-at
invariant-loop-at g l = record {
  come : EmptyAt (g.P.Port.value l.port) l.domain l.at;
  went : Gated ((goal.Preempt-dyn g l.fn.gate.now).policy l.fn.gate.now.1) ((goal.Preempt-dyn g l.gate.now).policy l.gate.now.1) false (λ answers. PhaseWent (g.P.Port.value l.fn.port) (g.P.Port.value l.port) l.domain (Empties l.fn.at) (Empties l.at) [] answers (Ok tt));
}

abbrev pub decreases-loop-at : goal.decreases-loop-at
decreases-loop-at g l = length (g.P.Port.value l.fn.port).post.machine.vcpu_domain - l.at
