use Rattle.std.proofs.Common.{Ok}
use Rattle.partial_state.specs.Weights.{weight}
use Rattle.level_release.specs.Course.{RunsDownBy}
use Rattle.level_release.proofs.emptying.run_down.Given as goal

abbrev pub invariant-loop-below : goal.invariant-loop-below
invariant-loop-below g l = record {
  course : RunsDownBy l.below (g.P.Port.value l.fn.port) l.fn.stack (g.P.Port.value l.port) l.stack ((goal.Preempt-dyn g l.fn.gate.now).policy l.fn.gate.now.1) ((goal.Preempt-dyn g l.gate.now).policy l.gate.now.1) (Ok tt);
}

abbrev pub decreases-loop-below : goal.decreases-loop-below
decreases-loop-below g l = weight l.stack
