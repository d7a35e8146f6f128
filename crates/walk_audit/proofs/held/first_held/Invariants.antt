use Rattle.xp_words.specs.Places.{sizes_of, memory}
use Rattle.walk_audit.specs.Order.{NoneBreaks}
use Rattle.walk_audit.proofs.held.first_held.Given as goal

abbrev pub invariant-loop-frame : goal.invariant-loop-frame
invariant-loop-frame l = NoneBreaks l.layout (memory (sizes_of l.layout) l.words) 1 0 l.frame
