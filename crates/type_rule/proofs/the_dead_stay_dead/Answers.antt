use Rattle.type_rule.proofs.DomainLaws.{marks_keep_domains, acts_keep_domains}
use Rattle.type_rule.proofs.the_dead_stay_dead.Goals as goal

pub returns-clause-marks : goal.returns-clause-marks
returns-clause-marks c = marks_keep_domains

pub returns-clause-acts : goal.returns-clause-acts
returns-clause-acts c = acts_keep_domains
