use Rattle.std.proofs.Common.{◌≡◌, length}
use Rattle.xp_words.specs.declared.place.Place.{Place}
use Rattle.xp_words.specs.Places.{sizes_of, memory}
use Rattle.machine_build.specs.Puts.{with_vcpus}
use Rattle.machine_build.proofs.rows.put_vcpus.Given as goal

abbrev pub invariant-loop-vcpu : goal.invariant-loop-vcpu
invariant-loop-vcpu l =
    (length l.words ≡ length l.initial.words) × ((p : Place) → memory (sizes_of l.layout) l.words p ≡ with_vcpus l.vcpu l.clock (memory (sizes_of l.layout) l.initial.words) p)
