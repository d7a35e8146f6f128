use Rattle.frame_words.proofs.FreeSteps.{may_bit, bit_hand}
use Rattle.frame_words.proofs.freeing.set_free_bit.Goals as goal

pub make-requires : goal.make-requires
make-requires g c = rw c.bit_of-by.ensures (may_bit _ c.args.frame c.args.owner c.requires.frame c.requires.may c.requires.ending c.requires.lowered)

pub returns-clause-hand : goal.returns-clause-hand
returns-clause-hand g c = bit_hand _ _ c.args.frame c.args.owner _ c.requires.ending c.requires.lowered (rw c.bit_of-by.ensures at c.make.ensures)
