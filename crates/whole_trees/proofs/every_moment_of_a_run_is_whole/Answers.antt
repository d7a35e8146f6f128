use Rattle.xp_board.specs.Runs.{word_at}
use Rattle.xp_board.specs.Sound.{hand_of}
use Rattle.whole_trees.proofs.Tops.{all_whole}
use Rattle.whole_trees.proofs.every_moment_of_a_run_is_whole.Goals as goal

pub returns : goal.returns
returns c n a b log state run = all_whole n (word_at n b) (hand_of b.hands) (c.every_run_stays_sound.ensures n a b log run state).sound
