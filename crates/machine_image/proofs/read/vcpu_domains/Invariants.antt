use Rattle.std.proofs.Common.{◌≡◌, ◌-◌, ◌+◌, ◌*◌, length}
use Rattle.machine_image.specs.Reading.{each_at, ranged_at}
use Rattle.machine_image.proofs.Loop.{with_front}
use Rattle.machine_image.proofs.read.vcpu_domains.Given as goal

abbrev pub invariant-loop-vcpu : goal.invariant-loop-vcpu
invariant-loop-vcpu l = record {
  long : length l.found.items ≡ l.vcpu;
  so_far : with_front l.found.items (each_at (λ _. ranged_at 0 (l.domains - 1) l.bytes) l.vcpu ((5 + 2 * l.domains) + l.vcpu) (l.vcpus - l.vcpu)) ≡ each_at (λ _. ranged_at 0 (l.domains - 1) l.bytes) 0 (5 + 2 * l.domains) l.vcpus;
}
