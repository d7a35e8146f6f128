use Rattle.std.proofs.Common.{◌≡◌, ◌++◌, take, string_bytes}
use Rattle.trace_text.specs.Lines.{spelling, script_lines}
use Rattle.trace_text.proofs.write.put_script.Given as goal

abbrev pub invariant-loop-op : goal.invariant-loop-op
invariant-loop-op l = string_bytes l.out ≡ string_bytes l.initial.out ++ spelling (script_lines l.vcpu (take l.op-index l.script))
