use Rattle.std.proofs.Common.{◌≡◌, ◌-◌, ◌+◌, length}
use Rattle.machine_image.specs.Reading.{each_at, ranged_at}
use Rattle.machine_image.proofs.Loop.{with_front}
use Rattle.machine_image.proofs.read.page_limits.Given as goal

abbrev pub invariant-loop-domain : goal.invariant-loop-domain
invariant-loop-domain l = record {
  long : length l.limits.items ≡ l.domain;
  so_far : with_front l.limits.items (each_at (λ _. ranged_at 0 65536 l.bytes) l.domain (5 + l.domain) (l.domains - l.domain)) ≡ each_at (λ _. ranged_at 0 65536 l.bytes) 0 5 l.domains;
}
