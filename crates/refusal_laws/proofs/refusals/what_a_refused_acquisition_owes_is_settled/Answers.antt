use Rattle.refusal_laws.proofs.Deciding.{owed_settled}
use Rattle.refusal_laws.proofs.refusals.what_a_refused_acquisition_owes_is_settled.Goals as goal

pub returns : goal.returns
returns c n v w f level q owes on = owed_settled n v w f level q owes on
