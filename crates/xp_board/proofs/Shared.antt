-- Lemmas that several crates above cite.
use Rattle.std.proofs.Common.{IsTrue, arith}
use Rattle.std.proofs.lemmas.Bool.Decides.{nat_tests}
use Rattle.xp_board.specs.Readings.{is_dead, is_live}
use Rattle.xp_words.specs.declared.kind.KindWord.{KindWord}

pub dead_unlive : (k : KindWord) → IsTrue (is_dead k) → IsTrue (is_live k) → ⊥
dead_unlive k dead live = grind (arith, nat_tests)
