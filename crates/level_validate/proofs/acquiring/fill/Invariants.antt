use Rattle.std.proofs.Common.{Ok, false}
use Rattle.partial_state.specs.Weights.{weight}
use Rattle.xp_preempt.specs.Gates.{Gated}
use Rattle.table_entries.specs.Acquiring.{Worked}
use Rattle.level_validate.proofs.acquiring.fill.Given as goal

abbrev pub invariant-loop-port : goal.invariant-loop-port
invariant-loop-port g l = record {
  course : Gated ((goal.Preempt-dyn g l.fn.gate.now).policy l.fn.gate.now.1) ((goal.Preempt-dyn g l.gate.now).policy l.gate.now.1) false (λ answers. Worked l.owner (g.P.Port.value l.fn.port) l.fn.table (g.P.Port.value l.port) l.stack answers (Ok tt));
}

abbrev pub decreases-loop-port : goal.decreases-loop-port
decreases-loop-port g l = weight l.stack
