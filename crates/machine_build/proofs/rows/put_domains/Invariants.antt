use Rattle.std.proofs.Common.{◌≡◌, length}
use Rattle.xp_words.specs.declared.place.Place.{Place}
use Rattle.xp_words.specs.Places.{sizes_of, memory}
use Rattle.machine_build.specs.Puts.{with_domains}
use Rattle.machine_build.proofs.rows.put_domains.Given as goal

abbrev pub invariant-loop-domain : goal.invariant-loop-domain
invariant-loop-domain l =
    (length l.words ≡ length l.initial.words) × ((p : Place) → memory (sizes_of l.layout) l.words p ≡ with_domains l.domain l.trace (memory (sizes_of l.layout) l.initial.words) p)
