-- The word of a locked table is a spelling.
use Rattle.std.proofs.Common.{◌≡◌, ◌+◌, ◌^◌, ◌<◌, false, arith, IsTrue}
use Rattle.std.proofs.lemmas.Bool.Decides.{nat_tests}
use Rattle.xp_words.specs.declared.kind.KindWord.{KindWord}
use Rattle.xp_words.specs.KindWords.{is_kind, kind_write, has_form}
use Rattle.xp_words.specs.PageTypes.{is_table}
use Rattle.xp_board.specs.KindSteps.{locked_kind}
use Rattle.xp_board.specs.Readings.{is_live}

pub locked_is : (k : KindWord) → IsTrue (is_kind k) → IsTrue (is_live k) → IsTrue (is_table k.kind) → 0 < k.number → k.number + 1 < 2 ^ 26 → IsTrue (is_kind (locked_kind k))
unfolding has_form
locked_is k is live table some below = grind (arith, nat_tests)

-- the lock's bit and one type count go on
pub locked_word : (k : KindWord) → k.locked ≡ false → kind_write (locked_kind k) ≡ kind_write k + 281474976710657
unfolding kind_write
locked_word k off = rw off (omega arith)
