use Rattle.frame_words.proofs.CellSteps.{look_hand, look_apart}
use Rattle.xp_board.proofs.Numbers.{cell_there}
use Rattle.frame_words.proofs.cells.look_cell.Goals as goal

pub look-requires : goal.look-requires
look-requires g c = cell_there _ c.args.frame c.args.index c.requires.frame c.requires.index

pub returns-clause-hand : goal.returns-clause-hand
returns-clause-hand g c = look_hand _ _ c.args.frame c.args.index _ c.look.ensures

pub returns-clause-apart : goal.returns-clause-apart
returns-clause-apart g c = look_apart _ _ c.args.frame c.args.index _ c.look.ensures
