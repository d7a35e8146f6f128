-- What a vCPU found of the clock.
use Rattle.std.proofs.Common.{◌≡◌, ℕ, ◌≤◌, ◌==◌, ◌&&◌, ◌||◌, nat_le, Bool, true, false, List, [], ◌∷◌, length, refl, subst, arith, IsTrue, inl, inr, ◌⊎◌}
use Rattle.std.proofs.lemmas.Bool.{and_parts, or_cases}
use Rattle.std.proofs.lemmas.Bool.Decides.{nat_tests}
use Rattle.xp_words.specs.declared.place.Place.{Place}
use Rattle.xp_words.specs.declared.place.Place.TheVariants.{Clock}
use Rattle.xp_words.specs.Places.{Sizes, place_at}
use Rattle.xp_board.specs.declared.holdings.Made.{Made}
use Rattle.xp_board.specs.Lists.{EachOf}
use Rattle.xp_board.specs.Readings.{clock_value}
use Rattle.xp_board.specs.Steps.{is_same, is_at, left_of, some_step, some_since}
use Rattle.xp_board.proofs.PlaceTests.{same_place}

clock_here : (p : Place) (w v clock : ℕ) → is_same p Clock ≡ true → (w == v) ≡ true → clock_value p w ≤ clock → v ≤ clock
unfolding clock_value
clock_here p w v clock at same most =
    let here : clock_value Clock w ≤ clock = subst (λ q. clock_value q w ≤ clock) (same_place p Clock at) most in
    let e : w ≡ v = grind (arith, nat_tests) in
    omega arith

-- each clock value that the vCPU found or left is at most the clock
pub clock_found : (z : Sizes) (clock n v : ℕ) (steps : List Made) →
    EachOf (λ x. (clock_value (place_at z x.step.place) x.found ≤ clock) × (clock_value (place_at z x.step.place) (left_of x) ≤ clock)) steps →
    IsTrue (some_since z n Clock (λ w. w == v) steps) → v ≤ clock
unfolding some_step EachOf
clock_found z clock n v [] each some = absurd cc
clock_found z clock n v (x ∷ xs) each some =
    elim (or_cases (nat_le n (length xs) && (is_at z Clock x && (left_of x == v))) _ some) [
      | inl here ↦
          let a = and_parts _ _ here in
          let k = and_parts _ _ a.1 in
          clock_here (place_at z x.step.place) (left_of x) v clock k.0 k.1 each.0.1
      | inr there ↦ clock_found z clock n v xs each.1 there
    ]
