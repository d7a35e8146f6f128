use Rattle.std.proofs.Common.{◌≡◌, map}
use Rattle.std.specs.Vec.{vec_capacity}
use Rattle.vcpu_runners.proofs.running.run_in_threads.Given as goal

abbrev pub invariant-ended : goal.invariant-ended
invariant-ended g l = record {
  passes : l.ended.items ≡ map (λ w. w.pass) l.yielded;
  runners : l.retired.items ≡ map (λ w. w.runner) l.yielded;
  room : vec_capacity l.ended ≡ vec_capacity l.initial.ended;
  rooms : vec_capacity l.retired ≡ vec_capacity l.initial.retired;
}
