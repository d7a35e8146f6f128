use Rattle.thread_board.proofs.Sharing.{shared_goes, shared_saw}
use Rattle.thread_board.proofs.shared_port.SharedPortPort.step.Goals as goal

pub returns-clause-goes : goal.returns-clause-goes
returns-clause-goes c = shared_goes _ _ _ _ _ _ c.step.ensures c.requires

pub returns-clause-saw : goal.returns-clause-saw
returns-clause-saw c = shared_saw _ _ _ _ _ _ c.step.ensures c.requires
