use Rattle.found_rule.proofs.Laws.{found_at_marks, found_at_acts}
use Rattle.found_rule.proofs.what_was_found_stays_true.Goals as goal

pub returns : goal.returns
returns c = record { marks = found_at_marks; acts = found_at_acts }
