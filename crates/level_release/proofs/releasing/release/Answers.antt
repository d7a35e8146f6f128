use Rattle.std.proofs.Common.{refl}
use Rattle.xp_preempt.proofs.Consulting.{gated_as}
use Rattle.level_release.proofs.releasing.release.Goals as goal

-- what it leaves is not kept
pub returns-clause-course : goal.returns-clause-course
returns-clause-course g c = gated_as refl (λ answers released. released.0) c.release_within.ensures.course
