use Rattle.count_rule.proofs.Laws.{mark_outcome, act_outcome}
use Rattle.count_rule.proofs.frames_stay_held_alone.Goals as goal

pub returns-clause-marks : goal.returns-clause-marks
returns-clause-marks c n s x m h b vcpu may marked sound = (mark_outcome n s x m h b vcpu may marked sound).alone

pub returns-clause-acts : goal.returns-clause-acts
returns-clause-acts c n s x m m2 b c2 vcpu may acted sound = (act_outcome n s x m m2 b c2 vcpu may acted sound).alone
