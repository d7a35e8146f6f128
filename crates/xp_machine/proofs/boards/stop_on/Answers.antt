use Rattle.std.proofs.Common.{ap, ◌∙◌}
use Rattle.xp_machine.proofs.Boarding.{is_of, stopped, does_back, ready_back, opening_back}
use Rattle.xp_machine.proofs.boards.stop_on.Goals as goal

pub stop-requires : goal.stop-requires
stop-requires g c =
    record {
      of = is_of (λ s. s.cpu) (g.B.WholeBoard.board c.args.board) (g.B.WholeBoard.board c.new-port.result.board) c.args.vcpu c.new-port.result.vcpu c.args.runners.now c.index-runners-vcpu.result
          (ap g.B.WholeBoard.board c.new-port.ensures.board) c.new-port.ensures.vcpu c.requires.known c.requires.ready;
    }

pub returns : goal.returns
returns g c =
    let board = g.B.WholeBoard.board in
    let back = c.into_board.ensures in
    let done = stopped (λ s. s.cpu) _ (board c.args.board) (board c.new-port.result.board) (board c.stop.new.port.board) c.args.vcpu c.new-port.result.vcpu c.stop.new.port.vcpu c.args.runners.now
    c.index-runners-vcpu.result c.stop.new.self (ap board c.new-port.ensures.board) c.new-port.ensures.vcpu c.stop.ensures.post c.requires.known c.requires.ready c.stop.ensures.of c.alone_stays.ensures c.stop.ensures.gate c.stop.ensures.stop in
    record {
      machine = ap (λ z. (board z).machine) back ∙ done.machine;
      opening = opening_back done _ (ap (λ z. (board z).story.opening) back);
      stop = does_back done _ (ap (λ z. (board z).story) back);
      ready = ready_back done _ (ap board back);
    }
