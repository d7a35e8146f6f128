use Rattle.vcpu_turn.proofs.Destroyed.{did_came, did_post, did_warm, went_ended, went_stopped}
use Rattle.vcpu_turn.proofs.PassedOn.{is_err}
use Rattle.vcpu_turn.proofs.Staying.{knows_on}
use Rattle.vcpu_turn.proofs.calls.go_on_destroying.Goals as goal

pub returns-in_err-left-clause-post : goal.returns-in_err-left-clause-post
returns-in_err-left-clause-post g c = did_post c.in_err-left.ensures.destroyed.course

pub returns-in_err-left-clause-awaits : goal.returns-in_err-left-clause-awaits
returns-in_err-left-clause-awaits g c = knows_on _ _ _ (did_came c.in_err-left.ensures.destroyed.course) c.requires.awaits

pub returns-in_err-left-clause-went : goal.returns-in_err-left-clause-went
returns-in_err-left-clause-went g c = went_stopped _ _ c.from_residual.ensures.1 c.in_err-left.ensures.destroyed

pub returns-in_err-left-clause-place : goal.returns-in_err-left-clause-place
returns-in_err-left-clause-place g c = rw (is_err _ _ c.from_residual.ensures.1) c.in_err-left.ensures.destroyed.course.come

pub returns-in_err-left-clause-warm : goal.returns-in_err-left-clause-warm
returns-in_err-left-clause-warm g c = did_warm c.in_err-left.ensures.destroyed.course c.requires.warm

pub returns-clause-post : goal.returns-clause-post
returns-clause-post g c = did_post c.in_ok-left.ensures.destroyed.course

pub returns-clause-awaits : goal.returns-clause-awaits
returns-clause-awaits g c = knows_on _ _ _ (did_came c.in_ok-left.ensures.destroyed.course) c.requires.awaits

pub returns-clause-went : goal.returns-clause-went
returns-clause-went g c = went_ended _ _ c.from.ensures c.in_ok-left.ensures.destroyed

pub returns-clause-warm : goal.returns-clause-warm
returns-clause-warm g c = did_warm c.in_ok-left.ensures.destroyed.course c.requires.warm
