use Rattle.std.proofs.Common.{◌+◌, ◌*◌}
use Rattle.xp_words.specs.Places.{sizes_of, memory}
use Rattle.walk_audit.specs.Order.{NoneBreaks}
use Rattle.walk_audit.proofs.contexts.first_of_vcpu.Given as goal

abbrev pub invariant-loop-word : goal.invariant-loop-word
invariant-loop-word l = NoneBreaks l.layout (memory (sizes_of l.layout) l.words) 5 (38 * l.vcpu) (38 * l.vcpu + l.word)
