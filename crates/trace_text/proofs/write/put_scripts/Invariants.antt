use Rattle.std.proofs.Common.{◌≡◌, ◌++◌, take, string_bytes}
use Rattle.trace_text.specs.Lines.{spelling, op_lines}
use Rattle.trace_text.proofs.write.put_scripts.Given as goal

abbrev pub invariant-loop-vcpu : goal.invariant-loop-vcpu
invariant-loop-vcpu l = string_bytes l.out ≡ string_bytes l.initial.out ++ spelling (op_lines (take l.vcpu l.scripts))
