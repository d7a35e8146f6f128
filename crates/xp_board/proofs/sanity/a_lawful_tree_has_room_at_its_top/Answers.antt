use Rattle.xp_board.proofs.Trees.{top_has_room}
use Rattle.xp_board.proofs.sanity.a_lawful_tree_has_room_at_its_top.Goals as goal

pub returns : goal.returns
returns c = top_has_room
