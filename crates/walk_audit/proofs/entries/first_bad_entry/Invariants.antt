use Rattle.std.proofs.Common.{◌*◌}
use Rattle.xp_words.specs.Places.{sizes_of, memory}
use Rattle.walk_audit.specs.Order.{NoneBreaks}
use Rattle.walk_audit.proofs.entries.first_bad_entry.Given as goal

abbrev pub invariant-loop-frame : goal.invariant-loop-frame
invariant-loop-frame l = NoneBreaks l.layout (memory (sizes_of l.layout) l.words) 4 0 (512 * l.frame)
