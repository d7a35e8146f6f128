use Rattle.std.proofs.Common.{◌≡◌, map}
use Rattle.vcpu_runners.specs.Turns.{pending_of}
use Rattle.xp_machine.specs.Ran.{log_of}
use Rattle.xp_machine.proofs.execute.logs_and_pending.Given as goal

abbrev pub invariant-runners : goal.invariant-runners
invariant-runners g l = record {
  logs : l.logs.items ≡ map (λ s. log_of s.cpu) l.yielded;
  pending : l.pending.items ≡ map (λ s. pending_of s.cpu) l.yielded;
}
