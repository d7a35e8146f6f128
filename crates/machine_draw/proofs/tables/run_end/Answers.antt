use Rattle.std.proofs.Common.{sym, ◌∙◌, arith}
use Rattle.machine_draw.proofs.Reaches.{run_more, run_stop, run_over}
use Rattle.machine_draw.proofs.tables.run_end.Goals as goal

pub loop-end-init : goal.loop-end-init
loop-end-init c = record {
  some = omega arith;
  same = sym (run_more _ _ _ c.requires.first c.requires.leads);
}

pub loop-end-preserved : goal.loop-end-preserved
loop-end-preserved c = record {
  some = omega arith;
  same = sym (run_more _ _ _ c.loop-end-test.true (sym c.leads.ensures ∙ c.if-leads.true)) ∙ c.loop-end.invariant.same;
}

pub returns-else-leads-clause-end : goal.returns-else-leads-clause-end
returns-else-leads-clause-end c = sym (run_stop _ _ _ (sym c.leads.ensures ∙ c.if-leads.false)) ∙ c.loop-end.invariant.same

pub returns-after-loop-end-clause-end : goal.returns-after-loop-end-clause-end
returns-after-loop-end-clause-end c = sym (run_over _ _ _ c.loop-end-test.false) ∙ c.loop-end.invariant.same
