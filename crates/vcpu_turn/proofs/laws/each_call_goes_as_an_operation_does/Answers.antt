use Rattle.vcpu_turn.proofs.CallTurns.{turn_calls, turn_goes}
use Rattle.vcpu_turn.proofs.laws.each_call_goes_as_an_operation_does.Goals as goal

pub returns-clause-goes : goal.returns-clause-goes
returns-clause-goes g c d op calls end v w answers next built turn = turn_goes c d end v w answers turn

pub returns-clause-stands : goal.returns-clause-stands
returns-clause-stands g c d op calls end v w answers next built turn = (turn_calls c calls d op end v w answers next built turn).stands

pub returns-clause-counts : goal.returns-clause-counts
returns-clause-counts g c d op calls end v w answers next built turn = (turn_calls c calls d op end v w answers next built turn).counts

pub returns-clause-elements : goal.returns-clause-elements
returns-clause-elements g c d op calls end v w answers next built turn = (turn_calls c calls d op end v w answers next built turn).elements
