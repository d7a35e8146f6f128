use Rattle.xp_board.proofs.Trees.{not_writable_itself}
use Rattle.xp_board.proofs.sanity.a_table_does_not_map_itself_writable.Goals as goal

pub returns : goal.returns
returns c = not_writable_itself
