use Rattle.std.proofs.Common.{rules}
use Rattle.machine_tests.proofs.Testing.{fresh_idles, takes_after, takes_back}
use Rattle.machine_tests.proofs.steps.ask_by_first.Goals as goal

pub ask_another-asked-requires-clause-idles : goal.ask_another-asked-requires-clause-idles
ask_another-asked-requires-clause-idles g c = fresh_idles c.args.board c.new-port.result.board 0 c.new-port.result.vcpu c.new-port.ensures.board c.new-port.ensures.vcpu (search rules) c.requires.fresh

pub returns : goal.returns
returns g c =
    takes_back _ _ c.into_board.ensures
    (takes_after c.args.board c.new-port.result.board c.ask_another-asked.new.port.board 0 c.new-port.result.vcpu c.ask_another-asked.new.port.vcpu c.new-port.ensures.board c.new-port.ensures.vcpu (search rules) c.requires.hands
    c.ask_another-asked.ensures.came c.ask_another-asked.ensures.hand c.requires.fresh)
