use Rattle.std.proofs.Common.{◌≡◌, false}
use Rattle.thread_board.specs.Ports.{pass_port}
use Rattle.vcpu_turn.specs.Turning.{IsOf}
use Rattle.vcpu_runners.specs.Cpus.{IsShort}
use Rattle.vcpu_runners.specs.Replayed.{TookTurns}
use Rattle.vcpu_runners.proofs.worker.work.Given as goal

abbrev pub invariant-turns : goal.invariant-turns
invariant-turns g l = record {
  post : (pass_port l.port.board.now l.port.pass.now l.port.pass.ghost_name).post ≡ (pass_port l.initial.port.board.now l.initial.port.pass.now l.initial.port.pass.ghost_name).post;
  turns : TookTurns ((goal.Preempt-dyn g (l.initial.runner.gate.vtable, l.initial.runner.gate.value)).policy l.initial.runner.gate.value) l.initial.runner.cpu (pass_port l.initial.port.board.now l.initial.port.pass.now l.initial.port.pass.ghost_name) ((goal.Preempt-dyn g (l.runner.gate.vtable, l.runner.gate.value)).policy l.runner.gate.value) l.runner.cpu (pass_port l.port.board.now l.port.pass.now l.port.pass.ghost_name);
  of : IsOf (pass_port l.port.board.now l.port.pass.now l.port.pass.ghost_name) l.runner.cpu;
  short : IsShort l.runner.cpu;
  runs : l.runner.cpu.retired ≡ false;
}
