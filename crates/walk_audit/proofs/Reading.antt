-- Words of the machine, read.
use Rattle.std.proofs.Common.{◌≡◌, ℕ, ◌<◌, ◌≤◌, true, length, IsTrue, Some, arith}
use Rattle.std.proofs.lemmas.Bool.Decides.{nat_tests}
use Rattle.xp_words.specs.RefWords.{ref_read}
use Rattle.xp_words.specs.declared.place.Place.{Place}
use Rattle.xp_words.specs.declared.place.Place.TheVariants.{Refs, Vcpu}
use Rattle.xp_words.specs.Machine.{Machine}
use Rattle.xp_words.specs.Places.{sizes_of}
use Rattle.xp_board.specs.Spelling.{IsSpelling}
use Rattle.xp_board.specs.Readings.{is_context, owner_of}
use Rattle.xp_board.proofs.Owners.{owner_is_real as owner_in_few}
use Rattle.reference_recount.specs.Recounted.{IsReadable}

-- a word of a vCPU that names a frame names one of the machine
pub context_few : (n : Machine) (m : Place → ℕ) (v k : ℕ) → IsReadable n m → v < (sizes_of n).vcpus → k < 38 → IsTrue (is_context k) → m (Vcpu v k) ≤ n.frames
unfolding IsSpelling
context_few n m v k r b c e = let h = (r.contexts v k b c).1 in let t : is_context k ≡ true = e in grind (arith, nat_tests)

pub owner_few : (n : Machine) (m : Place → ℕ) (f d : ℕ) → IsReadable n m → f < n.frames → owner_of (m (Refs f)) ≡ Some d → d < length n.page_limit
unfolding IsSpelling owner_of
owner_few n m f d r b e = owner_in_few n (ref_read (m (Refs f))) d (r.refs f b) e
