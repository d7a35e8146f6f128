use Rattle.type_rule.proofs.EntryLaws.{marks_keep_valid, acts_keep_valid}
use Rattle.type_rule.proofs.entries_still_lead_well.Goals as goal

pub returns-clause-marks : goal.returns-clause-marks
returns-clause-marks c = marks_keep_valid

pub returns-clause-acts : goal.returns-clause-acts
returns-clause-acts c = acts_keep_valid
