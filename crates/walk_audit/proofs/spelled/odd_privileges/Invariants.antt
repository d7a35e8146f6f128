use Rattle.std.proofs.Common.{◌+◌}
use Rattle.xp_words.specs.Places.{sizes_of, memory, first_priv}
use Rattle.walk_audit.specs.Order.{NoneBreaks}
use Rattle.walk_audit.proofs.spelled.odd_privileges.Given as goal

abbrev pub invariant-loop-domain : goal.invariant-loop-domain
invariant-loop-domain l = NoneBreaks l.layout (memory (sizes_of l.layout) l.words) 0 (first_priv (sizes_of l.layout)) (first_priv (sizes_of l.layout) + l.domain)
