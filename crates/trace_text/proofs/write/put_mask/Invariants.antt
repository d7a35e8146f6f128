use Rattle.std.proofs.Common.{◌≡◌, ◌++◌, string_bytes}
use Rattle.trace_text.specs.Lines.{spelling, mask_lines}
use Rattle.trace_text.proofs.write.put_mask.Given as goal

abbrev pub invariant-loop-over : goal.invariant-loop-over
invariant-loop-over l = string_bytes l.out ≡ string_bytes l.initial.out ++ spelling (mask_lines l.over l.domain l.mask)
