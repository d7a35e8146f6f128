use Rattle.xp_board.proofs.Empty.{empty_formed}
use Rattle.xp_board.proofs.sanity.empty_hands_are_well_formed.Goals as goal

pub returns : goal.returns
returns c = empty_formed
