use Rattle.whole_trees.proofs.Tops.{one_type}
use Rattle.whole_trees.proofs.a_frame_has_one_type_in_all_trees.Goals as goal

pub returns : goal.returns
returns c = one_type
