use Rattle.step_maker.proofs.Coming.{came_post}
use Rattle.vcpu_turn.proofs.accesses.read.Goals as goal

pub returns-in_err-word-clause-post : goal.returns-in_err-word-clause-post
returns-in_err-word-clause-post g c = came_post _ _ c.guest_read.ensures.came

pub returns-clause-post : goal.returns-clause-post
returns-clause-post g c = came_post _ _ c.guest_read.ensures.came
