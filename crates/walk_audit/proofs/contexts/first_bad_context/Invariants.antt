use Rattle.std.proofs.Common.{◌*◌}
use Rattle.xp_words.specs.Places.{sizes_of, memory}
use Rattle.walk_audit.specs.Order.{NoneBreaks}
use Rattle.walk_audit.proofs.contexts.first_bad_context.Given as goal

abbrev pub invariant-loop-vcpu : goal.invariant-loop-vcpu
invariant-loop-vcpu l = NoneBreaks l.layout (memory (sizes_of l.layout) l.words) 5 0 (38 * l.vcpu)
