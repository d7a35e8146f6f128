use Rattle.std.proofs.Common.{◌∙◌, ap, sym, subst}
use Rattle.xp_words.specs.Machine.{Machine}
use Rattle.xp_board.specs.Readings.{domain_of}
use Rattle.shared_board.specs.Board.{Board, port_value}
use Rattle.xp_machine.specs.Ready.{IsOf, TakesFresh, fresh}
use Rattle.xp_machine.proofs.Boarding.{of_port}
use Rattle.machine_tests.proofs.boards.steps_of.Goals as goal

pub turn-requires-clause-of : goal.turn-requires-clause-of
unfolding TakesFresh
turn-requires-clause-of c =
    let is = c.new-runner.ensures.cpu ∙ c.in_ok-cpu.ensures ∙ ap (λ (n : Machine). fresh n.frames c.args.vcpu (domain_of n c.args.vcpu) c.args.script) c.layout.ensures.layout in
    of_port c.args.board.now c.new-port.result.board.now c.args.vcpu c.new-port.result.vcpu c.new-runner.result.cpu (ap (λ b. b.now) c.new-port.ensures.board) c.new-port.ensures.vcpu
    (subst (IsOf (port_value c.args.board.now c.args.vcpu)) (sym is) (c.requires.fresh c.args.vcpu c.args.script c.requires.vcpu))
