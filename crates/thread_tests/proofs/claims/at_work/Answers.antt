use Rattle.thread_board.proofs.Dealing.{opened_is}
use Rattle.thread_tests.proofs.claims.at_work.Goals as goal

pub port-port-requires : goal.port-port-requires
port-port-requires g c = opened_is _ _ _ c.requires.opened c.requires.vcpu
