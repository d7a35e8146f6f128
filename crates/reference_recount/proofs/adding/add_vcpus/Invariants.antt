use Rattle.xp_words.specs.Places.{sizes_of, memory}
use Rattle.xp_board.specs.Sums.{sum_below}
use Rattle.reference_recount.specs.Growth.{AreSums, context_names, context_other}
use Rattle.reference_recount.proofs.adding.add_vcpus.Given as goal

abbrev pub invariant-loop-vcpu : goal.invariant-loop-vcpu
invariant-loop-vcpu l =
    let m = memory (sizes_of l.fn.layout) l.fn.words in
    AreSums l.initial.tallies.items l.tallies.items l.vcpu (λ g v. sum_below 38 (context_names m v g)) (λ g v. sum_below 38 (context_names m v g)) (λ g v. sum_below 38 (context_other l.kinds m v g))
