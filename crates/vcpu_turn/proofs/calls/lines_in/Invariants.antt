use Rattle.std.proofs.Common.{◌≡◌, ◌≤◌, ◌+◌, ◌*◌, drop, sum_by}
use Rattle.vcpu_turn.specs.Cpus.{lines_of_call}
use Rattle.vcpu_turn.proofs.calls.lines_in.Given as goal

abbrev pub invariant-loop-call : goal.invariant-loop-call
invariant-loop-call l = record {
  rest : l.lines + sum_by lines_of_call (drop l.call-index l.calls) ≡ sum_by lines_of_call (drop 0 l.calls);
  few : l.lines ≤ 513 * l.call-index;
}
