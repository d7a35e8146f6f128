use Rattle.xp_words.specs.Places.{sizes_of, memory}
use Rattle.reference_recount.specs.Growth.{AreSums, context_names, context_other}
use Rattle.reference_recount.proofs.adding.add_vcpu.Given as goal

abbrev pub invariant-loop-number : goal.invariant-loop-number
invariant-loop-number l =
    let m = memory (sizes_of l.fn.layout) l.fn.words in
    AreSums l.initial.tallies.items l.tallies.items l.number (context_names m l.fn.vcpu) (context_names m l.fn.vcpu) (context_other l.kinds m l.fn.vcpu)
