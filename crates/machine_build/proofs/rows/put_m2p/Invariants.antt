use Rattle.std.proofs.Common.{◌≡◌, length}
use Rattle.xp_words.specs.declared.place.Place.{Place}
use Rattle.xp_words.specs.Places.{sizes_of, memory}
use Rattle.machine_build.specs.Puts.{with_m2p}
use Rattle.machine_build.proofs.rows.put_m2p.Given as goal

abbrev pub invariant-loop-frame : goal.invariant-loop-frame
invariant-loop-frame l =
    (length l.words ≡ length l.initial.words) × ((p : Place) → memory (sizes_of l.layout) l.words p ≡ with_m2p l.frame (memory (sizes_of l.layout) l.initial.words) p)
