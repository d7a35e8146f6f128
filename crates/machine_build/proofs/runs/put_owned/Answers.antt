use Rattle.std.proofs.Common.{◌∙◌, refl}
use Rattle.machine_build.proofs.Steps.{owned_step, no_owned, reverse_map_more}
use Rattle.machine_build.proofs.runs.put_owned.Goals as goal

pub loop-own-init : goal.loop-own-init
loop-own-init c = (refl, no_owned _)

pub loop-own-preserved : goal.loop-own-preserved
loop-own-preserved c = (c.put_own.ensures.count ∙ c.loop-own.invariant.0, λ p. rw reverse_map_more (owned_step _ _ _ _ _ c.put_own.ensures.words c.loop-own.invariant.1 p))
