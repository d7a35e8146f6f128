use Rattle.dead_domains.proofs.StoppedRuns.{run_brings_nothing}
use Rattle.dead_domains.proofs.stopped.a_run_brings_the_stopped_nothing.Goals as goal

pub returns : goal.returns
returns c = run_brings_nothing c.a_legal_step_brings_the_stopped_nothing.ensures c.every_run_stays_sound.ensures
