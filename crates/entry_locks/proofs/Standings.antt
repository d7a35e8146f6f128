-- What a kind word says of a frame that is to be locked.
use Rattle.std.proofs.Common.{◌≡◌, ◌<◌, ◌||◌, true, false, IsTrue, arith}
use Rattle.std.proofs.lemmas.Bool.Decides.{nat_tests}
use Rattle.xp_words.specs.declared.kind.KindWord.{KindWord}
use Rattle.xp_words.specs.PageTypes.{is_table}
use Rattle.xp_board.specs.Readings.{is_closing, is_live, is_locked, is_work}
use Rattle.entry_locks.specs.Locks.{is_lockable, is_worked_on}

pub record IsFree (k : KindWord) : Type 0 where
  pub table : IsTrue (is_table k.kind)
  pub live : IsTrue (is_live k)
  pub unlocked : k.locked ≡ false
  pub some : 0 < k.number

pub when_free : (k : KindWord) → is_lockable k ≡ true → IsFree k
when_free k is = record { table = grind (arith, nat_tests); live = grind (arith, nat_tests); unlocked = grind (arith, nat_tests); some = grind (arith, nat_tests) }

-- a frame that is no table
pub plain_free : (k : KindWord) → is_table k.kind ≡ false → is_lockable k ≡ false
plain_free k off = grind (arith, nat_tests)

pub plain_idle : (k : KindWord) → is_table k.kind ≡ false → is_worked_on k ≡ false
plain_idle k off = grind (arith, nat_tests)

-- what another vCPU works on is found busy
pub worked_busy : (k : KindWord) → IsTrue (is_worked_on k) → IsTrue (is_work k || (is_locked k || is_closing k))
worked_busy k on = grind (arith, nat_tests)
