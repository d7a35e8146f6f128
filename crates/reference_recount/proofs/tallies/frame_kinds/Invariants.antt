use Rattle.xp_words.specs.Places.{sizes_of, memory}
use Rattle.reference_recount.specs.Growth.{AreKinds}
use Rattle.reference_recount.proofs.tallies.frame_kinds.Given as goal

abbrev pub invariant-loop-frame : goal.invariant-loop-frame
invariant-loop-frame l = AreKinds (memory (sizes_of l.fn.layout) l.fn.words) l.frame l.kinds.items
