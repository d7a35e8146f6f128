use Rattle.whole_trees.proofs.Basing.{base_was_set}
use Rattle.whole_trees.proofs.a_base_that_is_set_is_whole_as_it_is_stored.Goals as goal

pub returns : goal.returns
returns c = base_was_set c.every_run_stays_sound.ensures
