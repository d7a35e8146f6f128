use Rattle.std.proofs.Common.{◌+◌, ◌*◌}
use Rattle.xp_words.specs.Places.{sizes_of, memory, first_vcpu}
use Rattle.walk_audit.specs.Order.{NoneBreaks}
use Rattle.walk_audit.proofs.stamped.late_vcpus.Given as goal

abbrev pub invariant-loop-vcpu : goal.invariant-loop-vcpu
invariant-loop-vcpu l = NoneBreaks l.layout (memory (sizes_of l.layout) l.words) 6 (first_vcpu (sizes_of l.layout)) (first_vcpu (sizes_of l.layout) + 38 * l.vcpu)
