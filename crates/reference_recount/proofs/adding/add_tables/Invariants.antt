use Rattle.std.proofs.Common.{None}
use Rattle.xp_words.specs.Places.{sizes_of, memory}
use Rattle.xp_board.specs.Recorded.{table_entries, names, names_typed}
use Rattle.reference_recount.specs.Growth.{AreSums, names_other}
use Rattle.reference_recount.proofs.adding.add_tables.Given as goal

abbrev pub invariant-loop-frame : goal.invariant-loop-frame
invariant-loop-frame l =
    let m = memory (sizes_of l.fn.layout) l.fn.words in
    AreSums l.initial.tallies.items l.tallies.items l.frame (λ g f. table_entries (names g) m None f) (λ g f. table_entries (names_typed g) m None f) (λ g f. table_entries (names_other l.kinds g) m None f)
