use Rattle.frame_words.proofs.RowSteps.{may_map}
use Rattle.frame_words.proofs.rows.store_m2p.Goals as goal

pub make-requires : goal.make-requires
make-requires g c = may_map _ _ _ c.requires.frame c.requires.may c.ranges.gpfn.fits c.requires.held
