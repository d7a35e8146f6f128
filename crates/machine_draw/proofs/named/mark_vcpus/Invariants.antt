use Rattle.std.proofs.Common.{◌≡◌, ℕ, ◌<◌, ◌||◌, false, length, slice_index_or}
use Rattle.machine_draw.specs.Named.{vcpus_name}
use Rattle.machine_draw.proofs.named.mark_vcpus.Given as goal

abbrev pub invariant-loop-vcpu : goal.invariant-loop-vcpu
invariant-loop-vcpu l =
    (f : ℕ) → f < length l.initial.named → slice_index_or l.named f false ≡ (slice_index_or l.initial.named f false || vcpus_name l.image l.vcpu f)
