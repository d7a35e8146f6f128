use Rattle.std.proofs.Common.{◌∙◌, ap}
use Rattle.thread_board.specs.Values.{PassValue}
use Rattle.thread_board.proofs.Dealing.{opened_is}
use Rattle.thread_tests.proofs.Passing.{may_work}
use Rattle.thread_tests.proofs.two.set_one.Goals as goal

pub port-port-requires : goal.port-port-requires
port-port-requires c = opened_is _ _ _ c.requires.opened c.requires.vcpu

pub set_m2p-requires : goal.set_m2p-requires
set_m2p-requires c =
    may_work _ _ _ c.look_run.ensures.moves c.look_run.ensures.hand c.if-look_run-eq0.true
    (ap (λ (p : PassValue). p.holdings.walk) (c.port-port.ensures.pass ∙ c.requires.opened))
