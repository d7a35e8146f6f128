use Rattle.frame_words.proofs.RowSteps.{may_raise}
use Rattle.frame_words.proofs.rows.raise_refs.Goals as goal

pub exchange-requires : goal.exchange-requires
exchange-requires g c = may_raise _ _ _ _ c.args.from c.requires.frame c.requires.may c.requires.«open» c.requires.spelled c.raised-new.ensures
