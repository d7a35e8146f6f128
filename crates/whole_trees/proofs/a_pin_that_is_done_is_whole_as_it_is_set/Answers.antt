use Rattle.whole_trees.proofs.Pinning.{pin_was_set}
use Rattle.whole_trees.proofs.a_pin_that_is_done_is_whole_as_it_is_set.Goals as goal

pub returns : goal.returns
returns c = pin_was_set c.every_run_stays_sound.ensures
