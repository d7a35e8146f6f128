use Rattle.answer_laws.proofs.Aloneness.{alone_came}
use Rattle.answer_laws.proofs.alone.alone_stays.Goals as goal

pub returns : goal.returns
returns c = alone_came c.every_run_stays_sound.ensures
