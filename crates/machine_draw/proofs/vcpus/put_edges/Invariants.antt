use Rattle.std.proofs.Common.{◌≡◌, ◌++◌, string_bytes}
use Rattle.machine_draw.specs.Vcpus.{vcpu_edges}
use Rattle.machine_draw.proofs.vcpus.put_edges.Given as goal

abbrev pub invariant-loop-vcpu : goal.invariant-loop-vcpu
invariant-loop-vcpu l = string_bytes l.out ≡ string_bytes l.initial.out ++ vcpu_edges l.image l.vcpu
