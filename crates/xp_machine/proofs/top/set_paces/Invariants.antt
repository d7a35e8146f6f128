use Rattle.std.proofs.Common.{map}
use Rattle.xp_machine.proofs.Pacing.{PacedTo}
use Rattle.xp_machine.proofs.top.set_paces.Given as goal

abbrev pub invariant-gates : goal.invariant-gates
invariant-gates g l = PacedTo l.every l.gate-index (map (λ x. (goal.Preempt-dyn g (x.vtable, x.value)).policy x.value) l.fn.gates) (map (λ x. (goal.Preempt-dyn g (x.vtable, x.value)).policy x.value) l.gates)
