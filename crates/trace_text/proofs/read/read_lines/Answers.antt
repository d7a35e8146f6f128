use Rattle.std.proofs.Common.{◌∙◌, arith}
use Rattle.trace_text.proofs.LineLoop.{goes_on, fails}
use Rattle.trace_text.proofs.read.read_lines.Goals as goal

pub lines-preserved : goal.lines-preserved
lines-preserved c = record {
  few = omega (arith, c.in-Some.ensures.shorter);
  same = goes_on c.lines.part c.step.new.part c.lines.number c.lines.rest.now c.in-Some.line.now c.in-Some.after.now c.in-Some.ensures.parts c.in_default.ensures ∙ c.lines.invariant.same;
}

pub returns-in-Err-clause-reads : goal.returns-in-Err-clause-reads
returns-in-Err-clause-reads c =
    rw (c.fault_at.ensures, ← c.lines.invariant.same) (fails c.lines.part c.lines.number c.lines.rest.now c.in-Some.line.now c.in-Some.after.now c.in-Err.error c.in-Some.ensures.parts c.in-Err.ensures)
