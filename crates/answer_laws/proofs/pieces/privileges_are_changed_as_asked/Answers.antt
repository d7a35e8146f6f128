use Rattle.answer_laws.proofs.Fitting.{privileges}
use Rattle.answer_laws.proofs.pieces.privileges_are_changed_as_asked.Goals as goal

pub returns : goal.returns
returns c = privileges
