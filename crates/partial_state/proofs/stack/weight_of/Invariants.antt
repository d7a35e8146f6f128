use Rattle.std.proofs.Common.{◌≡◌, ◌+◌, drop}
use Rattle.partial_state.specs.Weights.{weight}
use Rattle.partial_state.proofs.stack.weight_of.Given as goal

abbrev pub invariant-loop-table : goal.invariant-loop-table
invariant-loop-table l = l.sum + weight (drop l.table-index l.tables) ≡ weight l.tables
