use Rattle.std.proofs.Common.{◌≡◌, reverse, map, length}
use Rattle.xp_words.specs.declared.place.Place.{Place}
use Rattle.xp_words.specs.Places.{sizes_of, memory}
use Rattle.machine_build.specs.Puts.{with_owned}
use Rattle.machine_build.proofs.runs.put_owned.Given as goal

abbrev pub invariant-loop-own : goal.invariant-loop-own
invariant-loop-own l =
    (length l.words ≡ length l.initial.words) × ((p : Place) → memory (sizes_of l.layout) l.words p ≡ with_owned (reverse (map (λ b. b.now) l.yielded)) (memory (sizes_of l.layout) l.initial.words) p)
