use Rattle.type_rule.proofs.EntryLaws.{marks_keep_permitted, acts_keep_permitted}
use Rattle.type_rule.proofs.entries_stay_permitted.Goals as goal

pub returns-clause-marks : goal.returns-clause-marks
returns-clause-marks c = marks_keep_permitted

pub returns-clause-acts : goal.returns-clause-acts
returns-clause-acts c = acts_keep_permitted
