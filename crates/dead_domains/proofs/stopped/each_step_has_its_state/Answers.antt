use Rattle.dead_domains.proofs.LifeRuns.{was_made}
use Rattle.dead_domains.proofs.stopped.each_step_has_its_state.Goals as goal

pub returns : goal.returns
returns c = was_made c.every_run_stays_sound.ensures
