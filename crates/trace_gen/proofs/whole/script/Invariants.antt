use Rattle.std.proofs.Common.{◌≡◌}
use Rattle.trace_gen.specs.Generated.{generated_script}
use Rattle.trace_gen.proofs.whole.script.Given as goal

abbrev pub invariant-loop-number : goal.invariant-loop-number
invariant-loop-number l = l.operations.items ≡ generated_script l.number
