use Rattle.std.proofs.Common.{◌≡◌, ◌≤◌, ◌+◌, length}
use Rattle.trace_text.specs.Fronts.{empty_front}
use Rattle.trace_text.specs.TraceOf.{trace_from, lines_of}
use Rattle.trace_text.proofs.read.read_lines.Given as goal

abbrev pub invariant-lines : goal.invariant-lines
invariant-lines l = record {
  few : l.number + length l.rest ≤ length l.bytes + 1;
  same : trace_from l.part l.number (lines_of l.rest) ≡ trace_from empty_front 1 (lines_of l.bytes);
}

abbrev pub decreases-lines : goal.decreases-lines
decreases-lines l = length l.rest
