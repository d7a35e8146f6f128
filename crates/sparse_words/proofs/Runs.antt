-- The words after a word was stored at each place of a run.
use Rattle.std.proofs.Common.{◌≡◌, ℕ, ◌+◌, ◌<◌, ◌≤◌, ◌&&◌, nat_lt, nat_le, Bool, List, slice_index, if◌then◌else◌, arith}
use Rattle.std.proofs.lemmas.Bool.Decides.{nat_tests}
use Rattle.xp_words.specs.declared.place.Place.TheVariants.{Cell}
use Rattle.xp_words.specs.Places.{Sizes, is_place, number, size}
use Rattle.xp_words.proofs.PlaceLaws.{number-lt, cell-behind}

-- whether k is one of the numbers from a on, below b
abbrev pub between : ℕ → ℕ → ℕ → Bool
between a b k = nat_le a k && nat_lt k b

-- the word of number k where those from a on, below b, hold v
abbrev pub written : ℕ → ℕ → ℕ → List ℕ → ℕ → ℕ
written a b v words k = if between a b k then v else slice_index words k

-- the cells of a frame stand inside
run_inside : (z : Sizes) (f i : ℕ) → f < z.frames → i < 512 → number z (Cell f 0) + i < size z
unfolding is_place
run_inside z f i h b = rw (cell-behind z f i) at (number-lt z (Cell f i) (grind (arith, nat_tests)))

-- a run of cells ends inside
pub run_end : (z : Sizes) (f first count : ℕ) → f < z.frames → first + count ≤ 512 → number z (Cell f 0) + first + count ≤ size z
run_end z f first count h l = let last : number z (Cell f 0) + 511 < size z = run_inside z f 511 h (omega arith) in omega arith

pub first_cell : (z : Sizes) (f first a : ℕ) → a ≡ number z (Cell f 0) → a + first ≡ number z (Cell f first)
first_cell z f first a start = let at = cell-behind z f first in omega arith
