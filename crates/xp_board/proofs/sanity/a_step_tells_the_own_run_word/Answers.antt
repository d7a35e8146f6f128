use Rattle.xp_board.proofs.Returned.{run_known}
use Rattle.xp_board.proofs.sanity.a_step_tells_the_own_run_word.Goals as goal

pub returns : goal.returns
returns c = run_known
