use Rattle.std.proofs.Common.{ℕ, ◌+◌, ◌<◌, IsTrue}
use Rattle.xp_words.specs.Entries.{is_bit}
use Rattle.walk_audit.proofs.spelled.is_privilege.Given as goal

abbrev pub invariant-loop-domain : goal.invariant-loop-domain
invariant-loop-domain l = (o : ℕ) → o < l.domain → IsTrue (is_bit o l.word) → IsTrue (is_bit (16 + o) l.word)
