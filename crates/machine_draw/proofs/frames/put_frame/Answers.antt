use Rattle.machine_draw.proofs.OwnRuns.{in_run_itself}
use Rattle.machine_draw.proofs.frames.put_frame.Goals as goal

pub put_run-requires-clause-is_in_run : goal.put_run-requires-clause-is_in_run
put_run-requires-clause-is_in_run c = in_run_itself _ _ _ _ _ c.cluster_of.ensures c.if-cluster_of-cluster.false c.is_drawn_alone.ensures c.if-not-is_drawn_alone.true
