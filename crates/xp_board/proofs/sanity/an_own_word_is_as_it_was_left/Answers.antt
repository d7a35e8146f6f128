use Rattle.xp_board.proofs.Returned.{own_left}
use Rattle.xp_board.proofs.sanity.an_own_word_is_as_it_was_left.Goals as goal

pub returns : goal.returns
returns c = own_left
