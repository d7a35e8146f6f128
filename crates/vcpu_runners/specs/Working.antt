-- One vCPU in its thread.
use Rattle.std.specs.Prelude.{◌≡◌, ℕ, true, false}
use Rattle.thread_board.specs.Ports.{pass_port}
use Rattle.thread_board.specs.Values.{BoardValue, PassValue, IsPassOf}
use Rattle.vcpu_turn.specs.Cpus.{Processing}
use Rattle.vcpu_turn.specs.Turning.{IsOf}
use Rattle.vcpu_runners.specs.Cpus.{IsShort}
use Rattle.vcpu_runners.specs.Replayed.{TookTurns}
use Rattle.xp_preempt.specs.Gates.{Gate}

-- the pass is one of that board and of that vCPU, which makes turns yet
pub record MayRun (b : BoardValue) (p : PassValue) (c : Processing) : Type 0 where
  pub pass : IsPassOf b p
  pub short : IsShort c
  pub of : (lender : ℕ) → IsOf (pass_port b p lender) c
  pub runs : c.retired ≡ false

-- it made turns until it was retired, and has what they left of its gate
pub record RanOut (b : BoardValue) (p q : PassValue) (gate left : Gate) (c c' : Processing) : Type 0 where
  pub pass : IsPassOf b q
  pub vcpu : q.vcpu ≡ p.vcpu
  pub lender : ℕ
  pub turns : TookTurns gate c (pass_port b p lender) left c' (pass_port b q lender)
  pub retired : c'.retired ≡ true
  pub of : IsOf (pass_port b q lender) c'
