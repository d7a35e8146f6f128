use Rattle.vcpu_turn.proofs.Retiring.{retired_at_end}
use Rattle.vcpu_turn.proofs.laws.a_turn_retires_only_at_the_scripts_end.Goals as goal

pub returns : goal.returns
returns c = retired_at_end
