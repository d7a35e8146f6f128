use Rattle.std.proofs.Common.{◌≡◌, ◌++◌, take, string_bytes}
use Rattle.report_text.specs.LogTexts.{log_lines}
use Rattle.report_text.proofs.log.put_lines.Given as goal

abbrev pub invariant-loop-line : goal.invariant-loop-line
invariant-loop-line l = string_bytes l.out ≡ string_bytes l.initial.out ++ log_lines (take l.line-index l.lines)
