use Rattle.xp_words.specs.Places.{sizes_of, memory}
use Rattle.walk_audit.specs.Order.{NoneBreaks}
use Rattle.walk_audit.proofs.pages.first_wrong_pages.Given as goal

abbrev pub invariant-loop-domain : goal.invariant-loop-domain
invariant-loop-domain l = NoneBreaks l.layout (memory (sizes_of l.layout) l.words) 3 0 l.domain
