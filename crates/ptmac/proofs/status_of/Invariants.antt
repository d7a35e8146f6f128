use Rattle.std.proofs.Common.{◌≡◌, vec_len}
use Rattle.ptmac.proofs.status_of.Given as goal

abbrev pub invariant-gates : goal.invariant-gates
invariant-gates g l = vec_len l.gates ≡ l._gate
