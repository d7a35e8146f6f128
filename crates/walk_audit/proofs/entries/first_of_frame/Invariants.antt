use Rattle.std.proofs.Common.{◌+◌, ◌*◌}
use Rattle.xp_words.specs.Places.{sizes_of, memory}
use Rattle.walk_audit.specs.Order.{NoneBreaks}
use Rattle.walk_audit.proofs.entries.first_of_frame.Given as goal

abbrev pub invariant-loop-index : goal.invariant-loop-index
invariant-loop-index l = NoneBreaks l.layout (memory (sizes_of l.layout) l.words) 4 (512 * l.frame) (512 * l.frame + l.index)
