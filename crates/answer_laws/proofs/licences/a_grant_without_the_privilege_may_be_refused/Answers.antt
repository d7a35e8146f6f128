use Rattle.answer_laws.proofs.Licensing.{not_granted}
use Rattle.answer_laws.proofs.licences.a_grant_without_the_privilege_may_be_refused.Goals as goal

pub returns : goal.returns
returns c = not_granted
