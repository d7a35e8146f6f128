use Rattle.step_maker.proofs.Coming.{came_post}
use Rattle.vcpu_turn.proofs.accesses.write.Goals as goal

pub returns-in_err-guest_write-clause-post : goal.returns-in_err-guest_write-clause-post
returns-in_err-guest_write-clause-post g c = came_post _ _ c.guest_write.ensures.came

pub returns-clause-post : goal.returns-clause-post
returns-clause-post g c = came_post _ _ c.guest_write.ensures.came
