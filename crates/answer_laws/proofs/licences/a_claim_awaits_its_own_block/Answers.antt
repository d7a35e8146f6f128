use Rattle.answer_laws.proofs.Licensing.{own_block_met}
use Rattle.answer_laws.proofs.licences.a_claim_awaits_its_own_block.Goals as goal

pub returns : goal.returns
returns c = own_block_met
