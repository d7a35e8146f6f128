use Rattle.std.proofs.Common.{◌≡◌, ◌∙◌, length, refl, arith}
use Rattle.std.proofs.Math.ListN.{length-set}
use Rattle.xp_words.specs.Places.{sizes_of, size}
use Rattle.machine_build.proofs.Steps.{put_word, no_map}
use Rattle.machine_build.proofs.map.put_map.Goals as goal

pub loop-number-init : goal.loop-number-init
loop-number-init c = (refl, no_map _ _)

pub loop-number-preserved : goal.loop-number-preserved
loop-number-preserved c =
    let count : length c.loop-number.words ≡ size (sizes_of c.args.layout.now) = c.loop-number.invariant.0 ∙ c.requires.count in (
      rw c.set.ensures (length-set c.loop-number.words c.map_place.result c.free_bits-bits.result) ∙ c.loop-number.invariant.0,
      λ p. rw (c.set.ensures, c.map_place.ensures) (put_word _ _ _ _ _ count (omega arith) c.free_bits-bits.ensures c.loop-number.invariant.1 p),
    )
