use Rattle.whole_trees.proofs.Below.{is_whole}
use Rattle.whole_trees.proofs.all_below_a_live_table_is_validated.Goals as goal

pub returns : goal.returns
returns c n m h f t sound table top = is_whole n m h sound f t top
