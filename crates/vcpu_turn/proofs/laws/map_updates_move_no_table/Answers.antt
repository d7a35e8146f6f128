use Rattle.vcpu_turn.proofs.PairTurns.{sets_move_none}
use Rattle.vcpu_turn.proofs.laws.map_updates_move_no_table.Goals as goal

pub returns : goal.returns
returns c pairs items sets k t less = sets_move_none pairs sets _
