use Rattle.std.proofs.Common.{◌≡◌, ◌++◌, string_bytes}
use Rattle.machine_draw.specs.Vcpus.{vcpu_parts}
use Rattle.machine_draw.proofs.vcpus.put_vcpus.Given as goal

abbrev pub invariant-loop-vcpu : goal.invariant-loop-vcpu
invariant-loop-vcpu l = string_bytes l.out ≡ string_bytes l.initial.out ++ vcpu_parts l.picture l.domain l.vcpu
