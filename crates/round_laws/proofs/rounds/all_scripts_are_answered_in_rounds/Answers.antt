use Rattle.round_laws.proofs.Opening.{answered_in_rounds}
use Rattle.round_laws.proofs.rounds.all_scripts_are_answered_in_rounds.Goals as goal

pub returns : goal.returns
returns c = answered_in_rounds c.a_turn_leaves_less_to_do.ensures.steady c.all_retire_in_rounds.ensures
