use Rattle.flush_words.proofs.RowSteps.{look_run_hand}
use Rattle.flush_words.proofs.turns.look_run.Goals as goal

pub returns-clause-hand : goal.returns-clause-hand
returns-clause-hand g c = look_run_hand _ _ _ _ c.vcpu-vcpu.ensures.vcpu c.make.ensures
