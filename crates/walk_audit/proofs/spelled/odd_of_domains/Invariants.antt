use Rattle.std.proofs.Common.{◌+◌, ◌*◌}
use Rattle.xp_words.specs.Places.{sizes_of, memory}
use Rattle.walk_audit.specs.Order.{NoneBreaks}
use Rattle.walk_audit.proofs.spelled.odd_of_domains.Given as goal

abbrev pub invariant-loop-domain : goal.invariant-loop-domain
invariant-loop-domain l = NoneBreaks l.layout (memory (sizes_of l.layout) l.words) 0 1 (1 + 2 * l.domain)
