use Rattle.std.proofs.Common.{◌+◌, ◌*◌}
use Rattle.xp_words.specs.Places.{sizes_of, memory, first_frame}
use Rattle.walk_audit.specs.Order.{NoneBreaks}
use Rattle.walk_audit.proofs.stamped.late_frames.Given as goal

abbrev pub invariant-loop-frame : goal.invariant-loop-frame
invariant-loop-frame l = NoneBreaks l.layout (memory (sizes_of l.layout) l.words) 6 (first_frame (sizes_of l.layout)) (first_frame (sizes_of l.layout) + 515 * l.frame)
