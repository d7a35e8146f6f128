use Rattle.std.proofs.Common.{ap, ◌∙◌}
use Rattle.xp_machine.proofs.Boarding.{is_of, script_short, turned, does_back, ready_back, opening_back}
use Rattle.xp_machine.proofs.boards.turn_on.Goals as goal

pub turn-requires-clause-short : goal.turn-requires-clause-short
turn-requires-clause-short g c = script_short (λ s. s.cpu) (g.B.WholeBoard.board c.args.board) c.args.vcpu c.args.runners.now c.index-runners-vcpu.result c.requires.known c.requires.ready

pub turn-requires-clause-of : goal.turn-requires-clause-of
turn-requires-clause-of g c =
    is_of (λ s. s.cpu) (g.B.WholeBoard.board c.args.board) (g.B.WholeBoard.board c.new-port.result.board) c.args.vcpu c.new-port.result.vcpu c.args.runners.now c.index-runners-vcpu.result
    (ap g.B.WholeBoard.board c.new-port.ensures.board) c.new-port.ensures.vcpu c.requires.known c.requires.ready

pub returns : goal.returns
returns g c =
    let board = g.B.WholeBoard.board in
    let back = c.into_board.ensures in
    let done = turned (λ s. s.cpu) _ (board c.args.board) (board c.new-port.result.board) (board c.turn.new.port.board) c.args.vcpu c.new-port.result.vcpu c.turn.new.port.vcpu c.args.runners.now
    c.index-runners-vcpu.result c.turn.new.self (ap board c.new-port.ensures.board) c.new-port.ensures.vcpu c.turn.ensures.post c.requires.known c.requires.ready c.turn.ensures.of c.alone_stays.ensures
    c.a_call_alone_is_neither_lost_nor_busy.ensures c.nobody_is_waited_for.ensures c.nothing_is_lost.ensures c.turn.ensures.turn in
    record {
      machine = ap (λ z. (board z).machine) back ∙ done.machine;
      opening = opening_back done _ (ap (λ z. (board z).story.opening) back);
      turn = does_back done _ (ap (λ z. (board z).story) back);
      ready = ready_back done _ (ap board back);
    }
