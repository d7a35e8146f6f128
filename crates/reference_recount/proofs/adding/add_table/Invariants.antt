use Rattle.xp_words.specs.Places.{sizes_of, memory}
use Rattle.xp_board.specs.Recorded.{entry_demand, names, names_typed}
use Rattle.reference_recount.specs.Growth.{AreSums, names_other}
use Rattle.reference_recount.proofs.adding.add_table.Given as goal

abbrev pub invariant-loop-index : goal.invariant-loop-index
invariant-loop-index l =
    let m = memory (sizes_of l.fn.layout) l.fn.words in
    AreSums l.initial.tallies.items l.tallies.items l.index (λ g i. names g (entry_demand m l.fn.frame i)) (λ g i. names_typed g (entry_demand m l.fn.frame i)) (λ g i. names_other l.kinds g (entry_demand m l.fn.frame i))
