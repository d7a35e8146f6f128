use Rattle.std.proofs.Common.{◌≡◌, ◌-◌, ◌+◌, length}
use Rattle.machine_image.specs.Reading.{each_at, mask_at}
use Rattle.machine_image.proofs.Loop.{with_front}
use Rattle.machine_image.proofs.read.masks.Given as goal

abbrev pub invariant-loop-domain : goal.invariant-loop-domain
invariant-loop-domain l = record {
  long : length l.masks.items ≡ l.domain;
  so_far : with_front l.masks.items (each_at (λ d. mask_at l.domains d l.bytes) l.domain ((5 + l.domains) + l.domain) (l.domains - l.domain)) ≡ each_at (λ d. mask_at l.domains d l.bytes) 0 (5 + l.domains) l.domains;
}
