use Rattle.std.proofs.Common.{ap, rules}
use Rattle.shared_board.specs.Board.{port_value}
use Rattle.machine_tests.proofs.Testing.{fresh_idles, rests_then}
use Rattle.machine_tests.proofs.boards.at_work.Goals as goal

pub returns : goal.returns
returns g c =
    let v = port_value c.new-port.result.board.now c.new-port.result.vcpu in
    let idles = fresh_idles c.args.board.now c.new-port.result.board.now 0 c.new-port.result.vcpu (ap (λ b. b.now) c.new-port.ensures.board) c.new-port.ensures.vcpu (search rules) c.requires in
    record { rests = rests_then v (port_value c.look_run.new.port.board.now c.look_run.new.port.vcpu) c.look_run.result idles c.look_run.ensures.hand (search rules) }
