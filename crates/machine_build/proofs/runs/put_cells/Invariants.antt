use Rattle.std.proofs.Common.{◌≡◌, reverse, take, length}
use Rattle.xp_words.specs.declared.place.Place.{Place}
use Rattle.xp_words.specs.Places.{sizes_of, memory}
use Rattle.machine_build.specs.Puts.{with_cells}
use Rattle.machine_build.proofs.runs.put_cells.Given as goal

abbrev pub invariant-loop-run : goal.invariant-loop-run
invariant-loop-run l =
    (length l.words ≡ length l.initial.words) × ((p : Place) → memory (sizes_of l.layout) l.words p ≡ with_cells (reverse (take l.run-index l.cells)) (memory (sizes_of l.layout) l.initial.words) p)
