use Rattle.std.proofs.Common.{◌≡◌, ◌∙◌, ◌<◌, ◌^◌, ◌-◌, length, refl, arith}
use Rattle.std.proofs.Math.ListN.{length-set}
use Rattle.xp_words.specs.Places.{sizes_of, size}
use Rattle.machine_build.proofs.Steps.{put_frame, no_frames}
use Rattle.machine_build.proofs.rows.put_m2p.Goals as goal

pub loop-frame-init : goal.loop-frame-init
loop-frame-init c = (refl, no_frames _)

pub loop-frame-preserved : goal.loop-frame-preserved
loop-frame-preserved c =
    let below : c.loop-frame.frame < c.args.layout.now.frames = grind arith in
    let count : length c.loop-frame.words ≡ size (sizes_of c.args.layout.now) = c.loop-frame.invariant.0 ∙ c.requires.count in (
      rw c.set.ensures (length-set c.loop-frame.words c.m2p_place.result (2 ^ 64 - 1)) ∙ c.loop-frame.invariant.0,
      λ p. rw (c.set.ensures, c.m2p_place.ensures) (put_frame _ _ _ _ count below c.loop-frame.invariant.1 p),
    )
