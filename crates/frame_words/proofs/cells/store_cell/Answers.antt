use Rattle.frame_words.proofs.CellSteps.{may_store, store_hand}
use Rattle.frame_words.proofs.cells.store_cell.Goals as goal

pub make-requires : goal.make-requires
make-requires g c = may_store _ c.args.frame c.args.index c.args.word c.requires.frame c.requires.index c.ranges.word.fits c.requires.may c.requires.writes

pub returns-clause-hand : goal.returns-clause-hand
returns-clause-hand g c = store_hand _ _ c.args.frame c.args.index c.args.word _ c.make.ensures c.requires.writes.apart
