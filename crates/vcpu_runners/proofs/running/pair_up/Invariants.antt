use Rattle.std.proofs.Common.{◌≡◌, map}
use Rattle.vcpu_runners.proofs.running.pair_up.Given as goal

abbrev pub invariant-pairs : goal.invariant-pairs
invariant-pairs g l = record {
  passes : map (λ w. w.pass) l.workers.items ≡ map (λ p. p.0) l.yielded;
  runners : map (λ w. w.runner) l.workers.items ≡ map (λ p. p.1) l.yielded;
}
