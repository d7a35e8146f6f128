use Rattle.std.proofs.Common.{◌≡◌, map}
use Rattle.vcpu_runners.specs.Cpus.{first_cpu}
use Rattle.vcpu_runners.specs.Rows.{gates_of, cpus_of}
use Rattle.xp_machine.proofs.execute.first_runners.Given as goal

abbrev pub invariant-runners : goal.invariant-runners
invariant-runners g l = record {
  cpus : cpus_of l.runners.items ≡ map (λ p. first_cpu l.layout p.0) l.yielded;
  gates : gates_of (λ x. (goal.Preempt-dyn g (x.vtable, x.value)).policy x.value) l.runners.items ≡ map (λ p. (goal.Preempt-dyn g (p.1.vtable, p.1.value)).policy p.1.value) l.yielded;
}
