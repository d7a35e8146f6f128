use Rattle.std.proofs.Common.{◌≡◌, ◌++◌, string_bytes}
use Rattle.machine_draw.specs.Frames.{frame_parts}
use Rattle.machine_draw.proofs.frames.put_frames.Given as goal

abbrev pub invariant-loop-frame : goal.invariant-loop-frame
invariant-loop-frame l = string_bytes l.out ≡ string_bytes l.initial.out ++ frame_parts l.picture l.cluster l.frame
