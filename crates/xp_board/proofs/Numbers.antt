-- A real place has one number; and which places are real.
use Rattle.std.proofs.Common.{◌≡◌, ℕ, ◌-◌, ◌<◌, Bool, true, false, nat_lt, List, IsTrue, refl, ap, subst, arith}
use Rattle.std.specs.Prelude.{slice_index}
use Rattle.std.proofs.lemmas.Bool.Decides.{nat_tests}
use Rattle.xp_words.specs.declared.place.Place.TheVariants.{Priv, Vcpu, Refs, Cell}
use Rattle.xp_words.specs.Places.{Sizes, place_at, is_place, memory, number, size, first_priv}
use Rattle.xp_words.proofs.PlaceLaws.{place_there}

past_last : (z : Sizes) (n : ℕ) → nat_lt n (first_priv z) ≡ false → place_at z n ≡ Priv (n - first_priv z)
unfolding place_at
past_last z n h = grind (arith, nat_tests)

inside_by : (z : Sizes) (n : ℕ) (b : Bool) → nat_lt n (first_priv z) ≡ b → IsTrue (is_place z (place_at z n)) → n < size z
unfolding is_place size
inside_by z n true e h = grind (arith, nat_tests)
inside_by z n false e h = let k : IsTrue (is_place z (Priv (n - first_priv z))) = subst (λ p. IsTrue (is_place z p)) (past_last z n e) h in grind (arith, nat_tests)

pub place_inside : (z : Sizes) (n : ℕ) → IsTrue (is_place z (place_at z n)) → n < size z
place_inside z n h = inside_by z n (nat_lt n (first_priv z)) refl h

pub place_number : (z : Sizes) (n : ℕ) → IsTrue (is_place z (place_at z n)) → number z (place_at z n) ≡ n
place_number z n h = (place_there z n (place_inside z n h)).1

-- the word at a real place
pub word_there : (z : Sizes) (words : List ℕ) (n : ℕ) → IsTrue (is_place z (place_at z n)) → memory z words (place_at z n) ≡ slice_index words n
unfolding memory
word_there z words n h = rw h (ap (λ i. slice_index words i) (place_number z n h))

pub vcpu_there : (z : Sizes) (s k : ℕ) → s < z.vcpus → k < 38 → IsTrue (is_place z (Vcpu s k))
unfolding is_place
vcpu_there z s k l few = grind (arith, nat_tests)

pub refs_there : (z : Sizes) (f : ℕ) → f < z.frames → IsTrue (is_place z (Refs f))
unfolding is_place
refs_there z f h = grind (arith, nat_tests)

pub cell_there : (z : Sizes) (f i : ℕ) → f < z.frames → i < 512 → IsTrue (is_place z (Cell f i))
unfolding is_place
cell_there z f i h l = grind (arith, nat_tests)
