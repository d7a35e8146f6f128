use Rattle.std.proofs.Common.{◌≡◌, ◌-◌, ◌<◌}
use Rattle.machine_draw.specs.Runs.{run_end}
use Rattle.machine_draw.specs.Frames.{is_in_run}
use Rattle.machine_draw.proofs.frames.run_end.Given as goal

abbrev pub invariant-loop-end : goal.invariant-loop-end
invariant-loop-end l = record {
  some : l.first < l.end;
  same : run_end (is_in_run l.picture l.cluster) l.end l.picture.memory.machine.frames ≡ run_end (is_in_run l.picture l.cluster) l.first l.picture.memory.machine.frames;
}

abbrev pub decreases-loop-end : goal.decreases-loop-end
decreases-loop-end l = l.picture.memory.machine.frames - l.end
