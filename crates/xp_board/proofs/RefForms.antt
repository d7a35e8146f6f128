-- What reference words say by their forms, beside the readings that stand with the board: the number that they are, and what a count rules out.
use Rattle.std.proofs.Common.{◌≡◌, ℕ, ◌<◌, ◌≤◌, false, true, Option, Some, None, IsTrue, sym, arith, refl}
use Rattle.std.proofs.lemmas.Bool.Decides.{nat_tests}
use Rattle.xp_words.specs.Machine.{Machine}
use Rattle.xp_board.specs.Spelling.{is_ref_in}
use Rattle.xp_words.specs.declared.refs.RefWord.{RefWord}
use Rattle.xp_words.specs.declared.refs.RefWord.TheVariants.{Free, Owned, Dying}
use Rattle.xp_words.specs.RefWords.{ref_read, ref_write}
use Rattle.xp_words.proofs.RefLaws.{ref_write-read}
use Rattle.xp_board.specs.Readings.{ref_count, count_in, is_free, is_free_in, is_dying, is_dying_in}
use Rattle.xp_board.proofs.RefWords.{read_small, is_dying-read, dying_says}

-- ---- the number of the word
pub free_number : (w stamp : ℕ) → ref_read w ≡ Some (Free stamp) → w ≡ stamp
unfolding ref_write
free_number w stamp e = sym (ref_write-read w (Free stamp) (read_small w (Free stamp) e) e).1

pub dying_number : (w o : ℕ) → ref_read w ≡ Some (Dying o) → w ≡ ref_write (Dying o)
dying_number w o e = sym (ref_write-read w (Dying o) (read_small w (Dying o) e) e).1

-- ---- counts
pub dying_uncounted : (w : ℕ) → is_dying w ≡ true → ref_count w ≡ 0
dying_uncounted w e = let r = is_dying-read w e in (dying_says w r.0 r.1).counts

-- that of a spelling is within the limit
pub count_fits : (n : Machine) (o : Option RefWord) → IsTrue (is_ref_in n o) → count_in o ≤ n.limit
count_fits n (Some (Free stamp)) is = omega arith
count_fits n (Some (Owned owner allocated count)) is = grind (arith, nat_tests)
count_fits n (Some (Dying owner)) is = omega arith
count_fits n None is = absurd cc

counted_by : (r : Option RefWord) → 0 < count_in r → (is_free_in r ≡ false) × (is_dying_in r ≡ false)
counted_by (Some (Owned owner allocated count)) some = (refl, refl)
counted_by (Some (Free stamp)) some = absurd (omega arith)
counted_by (Some (Dying owner)) some = absurd (omega arith)
counted_by None some = absurd (omega arith)

-- a counted frame is neither free nor in one vCPU's hand
pub counted_word : (w : ℕ) → 0 < ref_count w → (is_free w ≡ false) × (is_dying w ≡ false)
unfolding ref_count is_free is_dying
counted_word w some = counted_by (ref_read w) some
