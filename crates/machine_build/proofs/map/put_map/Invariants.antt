use Rattle.std.proofs.Common.{◌≡◌, length}
use Rattle.xp_words.specs.declared.place.Place.{Place}
use Rattle.xp_words.specs.Places.{sizes_of, memory}
use Rattle.machine_build.specs.Puts.{with_map}
use Rattle.machine_build.proofs.map.put_map.Given as goal

abbrev pub invariant-loop-number : goal.invariant-loop-number
invariant-loop-number l =
    (length l.words ≡ length l.initial.words) × ((p : Place) → memory (sizes_of l.layout) l.words p ≡ with_map l.number l.layout.frames (memory (sizes_of l.layout) l.initial.words) p)
