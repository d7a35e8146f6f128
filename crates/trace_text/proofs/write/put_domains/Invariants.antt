use Rattle.std.proofs.Common.{◌≡◌, ◌++◌, take, map, string_bytes}
use Rattle.trace_lines.specs.declared.line.Line.TheVariants as lines
use Rattle.trace_text.specs.Lines.{spelling}
use Rattle.trace_text.proofs.write.put_domains.Given as goal

abbrev pub invariant-loop-limit : goal.invariant-loop-limit
invariant-loop-limit l = string_bytes l.out ≡ string_bytes l.initial.out ++ spelling (map (λ limit. lines.Domain limit) (take l.limit-index l.limits))
