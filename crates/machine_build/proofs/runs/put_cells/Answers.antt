use Rattle.std.proofs.Common.{◌∙◌, refl}
use Rattle.machine_build.proofs.Steps.{cells_step, no_cells, reverse_take_more}
use Rattle.machine_build.proofs.runs.put_cells.Goals as goal

pub loop-run-init : goal.loop-run-init
loop-run-init c = (refl, no_cells _)

pub loop-run-preserved : goal.loop-run-preserved
loop-run-preserved c = (
  c.put_run.ensures.count ∙ c.loop-run.invariant.0,
  λ p. rw (reverse_take_more _ _ (record { frame = 0; first = 0; count = 0; value = 0 }) c.loop-run-test.true) (cells_step _ _ _ _ _ c.put_run.ensures.words c.loop-run.invariant.1 p),
)
