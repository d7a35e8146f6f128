use Rattle.std.proofs.Common.{◌≡◌, ◌++◌, take, string_bytes}
use Rattle.step_text.specs.Lines.{steps_text_of}
use Rattle.step_text.proofs.lines.put_steps.Given as goal

abbrev pub invariant-loop-told : goal.invariant-loop-told
invariant-loop-told l = string_bytes l.out ≡ string_bytes l.initial.out ++ steps_text_of l.layout (take l.told-index l.steps)
