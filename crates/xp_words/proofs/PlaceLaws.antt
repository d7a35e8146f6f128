use Rattle.std.proofs.Common.{◌≡◌, ◌≢◌, ℕ, ◌+◌, ◌*◌, ◌-◌, ◌/◌, ◌%◌, ◌<◌, ◌==◌, Bool, true, false, List, length, get_or, IsTrue, refl, sym, ◌∙◌, ap, arith, if◌then◌else◌, get_or-set_other, get_or-set_same}
use Rattle.std.proofs.Math.ListN.{set}
use Rattle.std.proofs.lemmas.Bool.Decides.{nat_tests}
use Rattle.xp_words.specs.declared.place.Place.{Place}
use Rattle.xp_words.specs.declared.place.Place.TheVariants.{Clock, Pages, Life, Vcpu, Refs, Kind, M2p, Cell, Map, Priv}
use Rattle.xp_words.specs.Places.{Sizes, is_place, number, place_at, memory, size, first_vcpu, first_frame, frame_place}

pub place_back : (z : Sizes) (p : Place) → IsTrue (is_place z p) → place_at z (number z p) ≡ p
unfolding place_at number is_place
place_back z Clock h = refl
place_back z (Pages d) h = grind (arith, nat_tests)
place_back z (Life d) h = grind (arith, nat_tests)
place_back z (Vcpu v k) h = grind (arith, nat_tests)
place_back z (Refs f) h = grind (arith, nat_tests)
place_back z (Kind f) h = grind (arith, nat_tests)
place_back z (M2p f) h = grind (arith, nat_tests)
place_back z (Cell f i) h = grind (arith, nat_tests)
place_back z (Map k) h = grind (arith, nat_tests)
place_back z (Priv d) h = grind (arith, nat_tests)

pub number-lt : (z : Sizes) (p : Place) → IsTrue (is_place z p) → number z p < size z
unfolding number size is_place
number-lt z Clock h = omega arith
number-lt z (Pages d) h = grind (arith, nat_tests)
number-lt z (Life d) h = grind (arith, nat_tests)
number-lt z (Vcpu v k) h = grind (arith, nat_tests)
number-lt z (Refs f) h = grind (arith, nat_tests)
number-lt z (Kind f) h = grind (arith, nat_tests)
number-lt z (M2p f) h = grind (arith, nat_tests)
number-lt z (Cell f i) h = grind (arith, nat_tests)
number-lt z (Map k) h = grind (arith, nat_tests)
number-lt z (Priv d) h = grind (arith, nat_tests)

pub memory_same : (z : Sizes) (words : List ℕ) (p : Place) (w : ℕ) → IsTrue (is_place z p) → length words ≡ size z → memory z (set words (number z p) w) p ≡ w
unfolding memory
memory_same z words p w h l = let b = number-lt z p h in let c : number z p < length words = omega arith in rw h (rw get_or-set_same)

-- two places of a machine have two numbers
pub number_apart : (z : Sizes) (p q : Place) → IsTrue (is_place z p) → IsTrue (is_place z q) → q ≢ p → number z q ≢ number z p
number_apart z p q h k n e = n (sym (place_back z q k) ∙ ap (place_at z) e ∙ place_back z p h)

other_by : (z : Sizes) (words : List ℕ) (p q : Place) (w : ℕ) (b : Bool) → (b ≡ true → number z q ≢ number z p) →
    (if b then get_or (set words (number z p) w) (number z q) 0 else 0) ≡ (if b then get_or words (number z q) 0 else 0)
other_by z words p q w true n = let k = n refl in rw get_or-set_other
other_by z words p q w false n = refl

pub memory_other : (z : Sizes) (words : List ℕ) (p q : Place) (w : ℕ) → IsTrue (is_place z p) → q ≢ p → memory z (set words (number z p) w) q ≡ memory z words q
unfolding memory
memory_other z words p q w h n = other_by z words p q w (is_place z q) (λ k. number_apart z p q h k n)

-- each number below the size is a place's
IsThere : Sizes → Place → ℕ → Type 0
IsThere z p n = IsTrue (is_place z p) × (number z p ≡ n)

vcpu_there : (z : Sizes) (j : ℕ) → j < 38 * z.vcpus → IsThere z (Vcpu (j / 38) (j % 38)) (first_vcpu z + j)
unfolding IsThere is_place number
vcpu_there z j h = grind (arith, nat_tests)

frame_there : (z : Sizes) (j : ℕ) → j < 515 * z.frames → IsThere z (frame_place (j / 515) (j % 515)) (first_frame z + j)
unfolding IsThere is_place number
frame_there z j h = grind (arith, nat_tests)

domain_there : (z : Sizes) (n : ℕ) → 0 < n → n < first_vcpu z → IsThere z (if n % 2 == 1 then Pages ((n - 1) / 2) else Life ((n - 2) / 2)) n
unfolding IsThere is_place number
domain_there z n k h = grind (arith, nat_tests)

pub place_there : (z : Sizes) (n : ℕ) → n < size z → IsTrue (is_place z (place_at z n)) × (number z (place_at z n) ≡ n)
unfolding place_at size IsThere is_place number
place_there z n h = grind (arith, nat_tests, vcpu_there, frame_there, domain_there)

-- the cells of a frame stand side by side
pub cell-behind : (z : Sizes) (f i : ℕ) → number z (Cell f i) ≡ number z (Cell f 0) + i
unfolding number
cell-behind z f i = omega arith
