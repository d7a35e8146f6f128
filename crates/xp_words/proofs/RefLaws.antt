use Rattle.std.proofs.Common.{◌≡◌, ℕ, ◌^◌, ◌<◌, true, false, Some, arith}
use Rattle.std.proofs.lemmas.Bool.Decides.{nat_tests}
use Rattle.xp_words.specs.declared.refs.RefWord.{RefWord}
use Rattle.xp_words.specs.declared.refs.RefWord.TheVariants.{Free, Owned, Dying}
use Rattle.xp_words.specs.RefWords.{ref_read, ref_write, IsRef}

pub ref_read-write : (x : RefWord) → IsRef x → ref_read (ref_write x) ≡ Some x
unfolding ref_read ref_write IsRef
ref_read-write (Free stamp) h = grind (arith, nat_tests)
ref_read-write (Owned owner true count) h = grind (arith, nat_tests)
ref_read-write (Owned owner false count) h = grind (arith, nat_tests)
ref_read-write (Dying owner) h = grind (arith, nat_tests)

pub ref_write-read : (w : ℕ) (x : RefWord) → w < 2 ^ 64 → ref_read w ≡ Some x → IsRef x × (ref_write x ≡ w)
unfolding ref_read ref_write IsRef
ref_write-read w x b h = grind (arith, nat_tests)

pub ruleset ref_laws = (ref_read-write, ref_write-read)
