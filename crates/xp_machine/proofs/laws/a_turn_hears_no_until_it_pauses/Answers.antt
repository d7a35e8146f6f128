use Rattle.xp_machine.proofs.Asking.{own_turn_hears}
use Rattle.xp_machine.proofs.laws.a_turn_hears_no_until_it_pauses.Goals as goal

pub returns : goal.returns
returns c = own_turn_hears
