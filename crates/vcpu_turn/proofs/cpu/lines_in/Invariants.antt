use Rattle.std.proofs.Common.{◌≡◌, ◌≤◌, ◌+◌, ◌*◌}
use Rattle.vcpu_turn.specs.Cpus.{lines_ahead}
use Rattle.vcpu_turn.proofs.cpu.lines_in.Given as goal

abbrev pub invariant-loop-op : goal.invariant-loop-op
invariant-loop-op l = record {
  rest : l.lines + lines_ahead l.frames l.script l.op-index ≡ lines_ahead l.frames l.script 0;
  few : l.lines ≤ 65537 * l.op-index;
}
