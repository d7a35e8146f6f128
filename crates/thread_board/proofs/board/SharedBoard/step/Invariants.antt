use Rattle.thread_board.specs.Sharing.{deed_of}
use Rattle.thread_board.proofs.board.SharedBoard.step.Given as goal

abbrev pub ghosts-share_step : goal.ghosts-share_step
ghosts-share_step a = record { deed = deed_of a.shared.now.key a.vcpu a.step }
