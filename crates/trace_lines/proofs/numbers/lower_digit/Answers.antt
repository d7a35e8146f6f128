use Rattle.std.proofs.Common.{refl, arith}
use Rattle.trace_lines.specs.declared.numbers.TheConstants.{DIGITS}
use Rattle.trace_lines.proofs.DigitTable.{right_below, digit_there, no_digit_there}
use Rattle.trace_lines.proofs.numbers.lower_digit.Goals as goal

pub returns-clause-some : goal.returns-clause-some
unfolding right_below
returns-clause-some c is = digit_there DIGITS refl c.args.c (omega arith) is

pub returns-clause-none : goal.returns-clause-none
unfolding right_below
returns-clause-none c is = no_digit_there DIGITS refl c.args.c (omega arith) is
