use Rattle.std.proofs.Common.{◌<◌, ◌≤◌, sym, ◌∙◌, arith}
use Rattle.machine_draw.proofs.Reaches.{run_more, run_stop, run_over}
use Rattle.machine_draw.proofs.frames.run_end.Goals as goal

pub loop-end-init : goal.loop-end-init
loop-end-init c = record {
  some = omega arith;
  same = sym (run_more _ _ _ c.requires.first c.requires.is_in_run);
}

pub loop-end-preserved : goal.loop-end-preserved
loop-end-preserved c =
    let low : c.loop-end.end < c.args.picture.now.memory.machine.frames = omega arith in
    record {
      some = omega arith;
      same = sym (run_more _ _ _ low (sym c.is_in_run.ensures ∙ c.if-is_in_run.true)) ∙ c.loop-end.invariant.same;
    }

pub returns-else-is_in_run-clause-end : goal.returns-else-is_in_run-clause-end
returns-else-is_in_run-clause-end c = sym (run_stop _ _ _ (sym c.is_in_run.ensures ∙ c.if-is_in_run.false)) ∙ c.loop-end.invariant.same

pub returns-after-loop-end-clause-end : goal.returns-after-loop-end-clause-end
returns-after-loop-end-clause-end c =
    let over : c.args.picture.now.memory.machine.frames ≤ c.loop-end.end = omega arith in
    sym (run_over _ _ _ over) ∙ c.loop-end.invariant.same
