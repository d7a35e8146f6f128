use Rattle.std.proofs.Common.{◌≡◌, ◌++◌, take, string_bytes}
use Rattle.trace_text.specs.Lines.{spelling, priv_lines}
use Rattle.trace_text.proofs.write.put_masks.Given as goal

abbrev pub invariant-loop-domain : goal.invariant-loop-domain
invariant-loop-domain l = string_bytes l.out ≡ string_bytes l.initial.out ++ spelling (priv_lines l.domains (take l.domain l.masks))
