use Rattle.std.proofs.Common.{◌≡◌, ◌++◌, take, map, string_bytes}
use Rattle.trace_lines.specs.declared.line.Line.TheVariants as lines
use Rattle.trace_text.specs.Lines.{spelling}
use Rattle.trace_text.proofs.write.put_vcpus.Given as goal

abbrev pub invariant-loop-domain : goal.invariant-loop-domain
invariant-loop-domain l = string_bytes l.out ≡ string_bytes l.initial.out ++ spelling (map (λ domain. lines.Vcpu domain) (take l.domain-index l.domains))
