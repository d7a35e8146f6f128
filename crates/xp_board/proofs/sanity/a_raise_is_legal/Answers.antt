use Rattle.xp_board.proofs.Rows.{raise_legal}
use Rattle.xp_board.proofs.sanity.a_raise_is_legal.Goals as goal

pub returns : goal.returns
returns c = raise_legal
