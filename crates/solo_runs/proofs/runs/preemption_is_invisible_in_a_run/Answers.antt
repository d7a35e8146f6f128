use Rattle.solo_runs.proofs.Ending.{run_comes}
use Rattle.solo_runs.proofs.runs.preemption_is_invisible_in_a_run.Goals as goal

pub returns : goal.returns
returns c t gates script closed last run fair = run_comes c.preemption_is_invisible.ensures c.a_vcpu_opens_its_script.ensures c.a_clock_below_its_last_value_was_never_there.ensures t gates script closed last run fair
