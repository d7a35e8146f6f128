-- Images and what is read, both ways.
use Rattle.std.proofs.Common.{◌≡◌, ℕ, List, None, Result, Ok, Err, refl, sym, ap, ◌∙◌}
use Rattle.std.specs.Prelude.{IfOk, IfErr}
use Rattle.xp_words.specs.Machine.{Machine}
use Rattle.machine_image.specs.declared.fault.ImageFault.{ImageFault}
use Rattle.machine_image.specs.declared.fault.ImageFault.TheVariants.{Bad, Memory}
use Rattle.machine_image.specs.Image.{image_of, IsImaged}
use Rattle.machine_image.specs.Reading.{FailsThere, ReadsAs, Tells, fault_there, image_at, image_fault}
use Rattle.machine_image.proofs.Bytes.{AreBytes}
use Rattle.machine_image.proofs.Images.{image_holds, image_read, image_is}
use Rattle.machine_image.proofs.Stands.{image_stands}

abbrev both : Machine → List ℕ → Result (Machine × List ℕ) ℕ
both m ws = Ok (m, ws)

-- what is read is spelled so
pub found_is : (bytes : List ℕ) (m : Machine) (ws : List ℕ) → AreBytes bytes → image_at bytes ≡ Ok (m, ws) → IsImaged m ws × (bytes ≡ image_of m ws)
found_is bytes m ws are e = image_is bytes m ws are (image_holds bytes (m, ws) e)

-- what is spelled so is read
pub reads_back : (bytes : List ℕ) (m : Machine) (ws : List ℕ) → IsImaged m ws → bytes ≡ image_of m ws → image_at bytes ≡ Ok (m, ws)
reads_back bytes m ws is text = image_read bytes m ws (image_stands bytes m ws is text)

same_pair : (m n : Machine) (ws vs : List ℕ) → both m ws ≡ both n vs → (m ≡ n) × (ws ≡ vs)
same_pair m n ws vs e =
    let pair : Result (Machine × List ℕ) ℕ → Machine × List ℕ = λ r. elim r [ Ok x ↦ x | Err at ↦ (m, ws) ] in
    (ap (λ (r : Result (Machine × List ℕ) ℕ). (pair r).0) e, ap (λ (r : Result (Machine × List ℕ) ℕ). (pair r).1) e)

pub one_spelling : (m n : Machine) (ws vs : List ℕ) → IsImaged m ws → IsImaged n vs → image_of m ws ≡ image_of n vs → (m ≡ n) × (ws ≡ vs)
one_spelling m n ws vs first second same =
    same_pair m n ws vs (sym (reads_back (image_of m ws) m ws first refl) ∙ reads_back (image_of m ws) n vs second same)

without_fault : (bytes : List ℕ) (r : Result (Machine × List ℕ) ℕ) → AreBytes bytes → image_at bytes ≡ r → fault_there r ≡ None → (m : Machine) × (ws : List ℕ) × IsImaged m ws × (bytes ≡ image_of m ws)
without_fault bytes (Ok x) are e none =
    let f = found_is bytes x.0 x.1 are e in
    (x.0, x.1, f.0, f.1)
without_fault bytes (Err at) are e none = absurd cc

pub no_fault : (bytes : List ℕ) → AreBytes bytes → image_fault bytes ≡ None → (m : Machine) × (ws : List ℕ) × IsImaged m ws × (bytes ≡ image_of m ws)
unfolding image_fault
no_fault bytes are none = without_fault bytes (image_at bytes) are refl none

-- what an error tells
tells : (e : ImageFault) (bytes : List ℕ) → FailsThere e (image_at bytes) → Tells e (image_fault bytes)
unfolding image_fault
tells Memory bytes gives = tt
tells (Bad at) bytes gives = ap fault_there gives

-- what a function that reads returned, seen as a machine and its words
module _ {X : Type 0} (bytes : List ℕ) (machine : X → Machine) (words : X → List ℕ) where
  pub found_by : (r : Result X ImageFault) → AreBytes bytes → ReadsAs {Y = Machine × List ℕ} (λ x. (machine x, words x)) r (image_at bytes) → IfOk r (λ x. IsImaged (machine x) (words x) × (bytes ≡ image_of (machine x) (words x)))
  found_by (Ok x) are gives = found_is bytes (machine x) (words x) are gives
  found_by (Err e) are gives = tt

  pub fault_by : (r : Result X ImageFault) → ReadsAs {Y = Machine × List ℕ} (λ x. (machine x, words x)) r (image_at bytes) → IfErr r (λ e. Tells e (image_fault bytes))
  fault_by (Ok x) gives = tt
  fault_by (Err e) gives = tells e bytes gives
