use Rattle.std.proofs.Common.{◌-◌, ℕ, [], false, Ok}
use Rattle.domain_destroy.specs.Destroying.{PhaseWent}
use Rattle.domain_destroy.specs.declared.place.DestroyAt.TheVariants.{Clears}
use Rattle.domain_destroy.proofs.Cleared.{ClearedAt}
use Rattle.domain_destroy.proofs.clearing.clear_frames.Given as goal
use Rattle.xp_preempt.specs.Gates.{Gated}

abbrev pub invariant-loop-at : goal.invariant-loop-at
invariant-loop-at g l = record {
  come : (since : ℕ) → ClearedAt (g.P.Port.value l.fn.port) l.domain l.fn.at since → ClearedAt (g.P.Port.value l.port) l.domain l.at since;
  went : Gated ((goal.Preempt-dyn g l.fn.gate.now).policy l.fn.gate.now.1) ((goal.Preempt-dyn g l.gate.now).policy l.gate.now.1) false (λ answers. PhaseWent (g.P.Port.value l.fn.port) (g.P.Port.value l.port) l.domain (Clears l.fn.at) (Clears l.at) [] answers (Ok tt));
}

abbrev pub decreases-loop-at : goal.decreases-loop-at
decreases-loop-at g l = (g.P.Port.value l.fn.port).post.machine.frames - l.at
