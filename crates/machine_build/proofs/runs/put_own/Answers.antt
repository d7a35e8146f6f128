use Rattle.std.proofs.Common.{◌≡◌, ◌∙◌, length, refl, arith}
use Rattle.std.proofs.Math.ListN.{length-set}
use Rattle.xp_words.specs.Places.{sizes_of, size}
use Rattle.machine_build.proofs.Steps.{put_own, no_own, whole_own}
use Rattle.machine_build.proofs.runs.put_own.Goals as goal

pub loop-frame-init : goal.loop-frame-init
loop-frame-init c = (refl, no_own c.args.own _ _ (omega arith))

pub loop-frame-preserved : goal.loop-frame-preserved
loop-frame-preserved c =
    let count : length c.loop-frame.words ≡ size (sizes_of c.args.layout.now) = c.loop-frame.invariant.0 ∙ c.requires.count in (
      rw c.set.ensures (length-set c.loop-frame.words c.refs_place.result c.write-word.result) ∙ c.loop-frame.invariant.0,
      λ p. rw (c.set.ensures, c.refs_place.ensures) (put_own _ _ _ c.args.own c.loop-frame.frame _ count (omega arith) (omega arith) (omega arith) c.write-word.ensures c.loop-frame.invariant.1 p),
    )

pub returns-clause-words : goal.returns-clause-words
returns-clause-words c = λ p. c.loop-frame.invariant.1 p ∙ whole_own c.args.own c.loop-frame.frame _ p (omega arith)
