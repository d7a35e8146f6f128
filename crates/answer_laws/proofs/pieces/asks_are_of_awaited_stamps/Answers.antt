use Rattle.answer_laws.proofs.Fitting.{asks}
use Rattle.answer_laws.proofs.pieces.asks_are_of_awaited_stamps.Goals as goal

pub returns : goal.returns
returns c = asks
