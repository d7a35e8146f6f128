use Rattle.answer_laws.proofs.Fitting.{flushes}
use Rattle.answer_laws.proofs.pieces.no_needless_flush.Goals as goal

pub returns : goal.returns
returns c = flushes
