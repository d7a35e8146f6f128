use Rattle.xp_board.proofs.Rows.{map_legal}
use Rattle.xp_board.proofs.sanity.a_map_is_legal.Goals as goal

pub returns : goal.returns
returns c = map_legal
