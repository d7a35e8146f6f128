use Rattle.xp_board.proofs.Returned.{awaited_free}
use Rattle.xp_board.proofs.sanity.an_awaited_stamp_is_free.Goals as goal

pub returns : goal.returns
returns c = awaited_free
