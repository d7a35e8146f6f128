use Rattle.std.proofs.Common.{◌<◌, sym, subst}
use Rattle.std.specs.Prelude.{IfSome}
use Rattle.thread_board.proofs.Sharing.{pass_cached}
use Rattle.thread_board.proofs.shared_port.SharedPortPort.cached.Goals as goal

pub returns-clause-inside : goal.returns-clause-inside
returns-clause-inside c =
    subst (λ o. IfSome o (λ x. x.frame < c.args.self.now.board.now.machine.frames)) (sym c.cached.ensures)
    (pass_cached c.args.self.now.board.now.machine.frames c.args.user c.args.page c.args.self.now.pass.now.holdings.cache c.args.self.now.own.inside)
