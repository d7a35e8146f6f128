use Rattle.answer_laws.proofs.Licensing.{doomed_asked}
use Rattle.answer_laws.proofs.licences.a_frame_of_a_destroyed_domain_is_asked.Goals as goal

pub returns : goal.returns
returns c = doomed_asked
