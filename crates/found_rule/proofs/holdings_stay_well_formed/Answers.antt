use Rattle.found_rule.proofs.Laws.{formed_at_marks, formed_at_acts}
use Rattle.found_rule.proofs.holdings_stay_well_formed.Goals as goal

pub returns : goal.returns
returns c = record { marks = formed_at_marks; acts = formed_at_acts }
