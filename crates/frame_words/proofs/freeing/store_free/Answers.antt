use Rattle.frame_words.proofs.FreeSteps.{may_free, free_hand}
use Rattle.frame_words.proofs.freeing.store_free.Goals as goal

pub make-requires : goal.make-requires
make-requires g c = may_free _ c.args.frame c.args.owner c.args.stamp _ c.requires.frame c.requires.may c.requires.clock c.requires.ending c.requires.raised c.free_word-new.ensures

pub returns-clause-hand : goal.returns-clause-hand
returns-clause-hand g c = free_hand _ _ c.args.frame c.args.owner c.args.stamp _ c.requires.clock c.requires.ending.ends (rw c.free_word-new.ensures at c.make.ensures)
