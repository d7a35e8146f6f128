use Rattle.vcpu_turn.proofs.Logging.{turn_counts}
use Rattle.vcpu_turn.proofs.laws.a_log_has_the_answers_it_counts.Goals as goal

pub returns : goal.returns
returns c = turn_counts
