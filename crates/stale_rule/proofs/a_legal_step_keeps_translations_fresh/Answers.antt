use Rattle.stale_rule.proofs.Quiet.{mark_row}
use Rattle.stale_rule.proofs.Rows.{act_row}
use Rattle.stale_rule.proofs.a_legal_step_keeps_translations_fresh.Goals as goal

pub returns-clause-marks : goal.returns-clause-marks
returns-clause-marks c = mark_row

pub returns-clause-acts : goal.returns-clause-acts
returns-clause-acts c = act_row
