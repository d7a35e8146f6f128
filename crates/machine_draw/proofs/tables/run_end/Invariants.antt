use Rattle.std.proofs.Common.{◌≡◌, ◌-◌, ◌<◌}
use Rattle.machine_draw.specs.Runs.{run_end}
use Rattle.machine_draw.specs.Tables.{leads}
use Rattle.machine_draw.proofs.tables.run_end.Given as goal

abbrev pub invariant-loop-end : goal.invariant-loop-end
invariant-loop-end l = record {
  some : l.first < l.end;
  same : run_end (leads l.image l.table l.frame l.writable) l.end l.table.recorded ≡ run_end (leads l.image l.table l.frame l.writable) l.first l.table.recorded;
}

abbrev pub decreases-loop-end : goal.decreases-loop-end
decreases-loop-end l = l.table.recorded - l.end
