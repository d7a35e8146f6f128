-- Words of which one cell was changed, and plain values with these cells.
use Rattle.std.proofs.Common.{◌≡◌, ℕ, ◌<◌, ◌==◌, ◌&&◌, if◌then◌else◌, Bool, true, false, refl, sym, ap, ◌∙◌}
use Rattle.xp_words.specs.Machine.{Machine}
use Rattle.xp_words.specs.declared.place.Place.{Place}
use Rattle.xp_words.specs.declared.place.Place.TheVariants.{Cell}
use Rattle.xp_board.specs.Steps.{is_same}
use Rattle.step_maker.specs.Plain.{Words}
use Rattle.replay_laws.specs.Replays.{SameWords}
use Rattle.table_law.specs.Exchange.{with_cell}
use Rattle.table_law.specs.Plain.{Plain}

abbrev pub is_cell : Place → Bool
is_cell (Cell f i) = true
is_cell _ = false

-- u: the words m, but that cell i of frame f has the word x
abbrev pub SetsCell : Words → ℕ → ℕ → ℕ → Words → Type 0
SetsCell m f i x u = (q : Place) → u q ≡ (if is_same q (Cell f i) then x else m q)

-- all other words than cells are the same
abbrev pub OnlyCells : Words → Words → Type 0
OnlyCells m u = (q : Place) → is_cell q ≡ false → u q ≡ m q

-- the cells of p are those of the words
abbrev pub CellsOf : Machine → Words → Plain → Type 0
CellsOf n m p = (g j : ℕ) → g < n.frames → j < 512 → p.cells g j ≡ m (Cell g j)

-- ---- one cell
by_tests : (a b : Bool) (x y z : ℕ) → y ≡ z → (if a && b then x else y) ≡ (if (if a then b else false) then x else z)
by_tests true true x y z e = refl
by_tests true false x y z e = e
by_tests false b x y z e = e

pub set_cells : (n : Machine) (m u : Words) (p : Plain) (f i x : ℕ) → CellsOf n m p → SetsCell m f i x u → CellsOf n u (with_cell f i x p)
set_cells n m u p f i x cells sets g j inside few = by_tests (g == f) (j == i) x (p.cells g j) (m (Cell g j)) (cells g j inside few) ∙ sym (sets (Cell g j))

elsewhere : (q : Place) (f i : ℕ) → is_cell q ≡ false → is_same q (Cell f i) ≡ false
elsewhere (Cell g j) f i off = absurd cc
elsewhere _ f i off = refl

pub sets_only : (m u : Words) (f i x : ℕ) → SetsCell m f i x u → OnlyCells m u
sets_only m u f i x sets q off = sets q ∙ ap (λ b. if b then x else m q) (elsewhere q f i off)

-- ---- the same words
pub cells_same : (n : Machine) (m u : Words) (p : Plain) → SameWords m u → CellsOf n m p → CellsOf n u p
cells_same n m u p same cells g j inside few = cells g j inside few ∙ sym (same (Cell g j))

pub only_same : (m u : Words) → SameWords m u → OnlyCells m u
only_same m u same q off = same q

pub only_then : (m k u : Words) → OnlyCells m k → OnlyCells k u → OnlyCells m u
only_then m k u a b q off = b q off ∙ a q off
