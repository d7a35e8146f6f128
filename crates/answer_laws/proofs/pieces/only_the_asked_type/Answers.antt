use Rattle.answer_laws.proofs.Fitting.{asked_type}
use Rattle.answer_laws.proofs.pieces.only_the_asked_type.Goals as goal

pub returns : goal.returns
returns c = asked_type
