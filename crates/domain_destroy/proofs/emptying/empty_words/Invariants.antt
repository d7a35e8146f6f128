use Rattle.std.proofs.Common.{false}
use Rattle.domain_destroy.proofs.AllWords.{LeftEmpty, SoFar}
use Rattle.domain_destroy.proofs.emptying.empty_words.Given as goal
use Rattle.xp_preempt.specs.Gates.{Gated}

abbrev pub invariant-loop-i : goal.invariant-loop-i
invariant-loop-i g l = record {
  empty : LeftEmpty (g.P.Port.value l.fn.port) (g.P.Port.value l.port) l.vcpu l.i;
  went : Gated ((goal.Preempt-dyn g l.fn.gate.now).policy l.fn.gate.now.1) ((goal.Preempt-dyn g l.gate.now).policy l.gate.now.1) false (λ answers. SoFar (g.P.Port.value l.fn.port) (g.P.Port.value l.port) l.domain l.vcpu l.i answers);
}
