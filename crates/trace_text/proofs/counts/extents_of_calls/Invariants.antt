use Rattle.std.proofs.Common.{◌≡◌, take, sum_by}
use Rattle.trace_text.specs.Counted.{extents_in_call}
use Rattle.trace_text.specs.Fronts.{capped}
use Rattle.trace_text.proofs.counts.extents_of_calls.Given as goal

abbrev pub invariant-loop-call : goal.invariant-loop-call
invariant-loop-call l = l.total ≡ capped (sum_by extents_in_call (take l.call-index l.call-items))
