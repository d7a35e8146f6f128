use Rattle.std.proofs.Common.{arith}
use Rattle.trace_lines.proofs.Splits.{len_before_none, len_before_some, len_before_within}
use Rattle.trace_lines.proofs.words.far_len_before.Goals as goal

pub returns-in-None-clause-place : goal.returns-in-None-clause-place
returns-in-None-clause-place c = len_before_none c.args.byte c.args.bytes.now c.in-None.ensures

pub returns-in-Some-clause-place : goal.returns-in-Some-clause-place
returns-in-Some-clause-place c = len_before_some c.args.byte c.args.bytes.now c.in-Some.at c.in-Some.ensures

pub returns-in-Some-clause-within : goal.returns-in-Some-clause-within
returns-in-Some-clause-within c = omega (arith, len_before_within c.args.byte c.args.bytes.now, len_before_some c.args.byte c.args.bytes.now c.in-Some.at c.in-Some.ensures)
