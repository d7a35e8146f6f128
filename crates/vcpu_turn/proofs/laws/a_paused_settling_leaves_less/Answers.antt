use Rattle.vcpu_turn.proofs.Leaving.{row_ends, turn_leaves}
use Rattle.vcpu_turn.proofs.laws.a_paused_settling_leaves_less.Goals as goal

pub returns-clause-less : goal.returns-clause-less
returns-clause-less g x d end v w answers k is turn settling said = turn_leaves x d end v w answers k is turn settling said

pub returns-clause-row : goal.returns-clause-row
returns-clause-row g n x y k is row = row_ends n x y k is row
