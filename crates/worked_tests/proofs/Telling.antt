-- Words at which the tests tell of steps: where each stands, and that a word may stand there.
use Rattle.std.proofs.Common.{◌≡◌, ℕ, ◌^◌, ◌<◌, ◌≤◌, IsTrue, refl, sym, ap, ◌∙◌, subst, arith}
use Rattle.std.proofs.lemmas.Bool.Decides.{nat_tests}
use Rattle.xp_words.specs.Machine.{Machine}
use Rattle.xp_words.specs.declared.place.Place.{Place}
use Rattle.xp_words.specs.declared.place.Place.TheVariants.{Clock, Vcpu, Cell}
use Rattle.xp_words.specs.Places.{Sizes, number, place_at, is_place}
use Rattle.xp_words.proofs.PlaceLaws.{place_back}
use Rattle.xp_board.specs.Spelling.{IsSpelling}
use Rattle.xp_board.proofs.Numbers.{cell_there, vcpu_there}

pub record Stands (z : Sizes) (n : ℕ) (p : Place) : Type 0 where
  pub at : place_at z n ≡ p
  pub real : IsTrue (is_place z (place_at z n))

stands : (z : Sizes) (n : ℕ) (p : Place) → IsTrue (is_place z p) → n ≡ number z p → Stands z n p
stands z n p real is =
    let at : place_at z n ≡ p = ap (place_at z) is ∙ place_back z p real in
    record { at = at; real = subst (λ q. IsTrue (is_place z q)) (sym at) real }

pub cell_stands : (z : Sizes) (f i n : ℕ) → f < z.frames → i < 512 → n ≡ number z (Cell f i) → Stands z n (Cell f i)
cell_stands z f i n frame index is = stands z n (Cell f i) (cell_there z f i frame index) is

pub vcpu_stands : (z : Sizes) (v k n : ℕ) → v < z.vcpus → k < 38 → n ≡ number z (Vcpu v k) → Stands z n (Vcpu v k)
vcpu_stands z v k n vcpu word is = stands z n (Vcpu v k) (vcpu_there z v k vcpu word) is

pub clock_stands : (z : Sizes) → Stands z 0 Clock
unfolding place_at is_place
clock_stands z = record { at = refl; real = refl }

-- ---- what may stand there
pub cell_spelled : (n : Machine) (f i w : ℕ) → w < 2 ^ 64 → IsSpelling n (Cell f i) w
unfolding IsSpelling
cell_spelled n f i w lt = lt

pub base_spelled : (n : Machine) (v k w : ℕ) → k < 2 → n.frames < 2 ^ 64 → w ≤ n.frames → IsSpelling n (Vcpu v k) w
unfolding IsSpelling
base_spelled n v k w word few le = grind (arith, nat_tests)

pub flushed_spelled : (n : Machine) (v w : ℕ) → w < 2 ^ 64 → IsSpelling n (Vcpu v 5) w
unfolding IsSpelling
flushed_spelled n v w lt = (lt, refl)

pub clock_spelled : (n : Machine) → IsSpelling n Clock 5
unfolding IsSpelling
clock_spelled n = grind (arith, nat_tests)
