use Rattle.std.proofs.Common.{◌≡◌, ◌++◌, string_bytes}
use Rattle.report_text.specs.ReportOf.{frame_texts}
use Rattle.report_text.proofs.whole.put_frames.Given as goal

abbrev pub invariant-loop-frame : goal.invariant-loop-frame
invariant-loop-frame l =
    string_bytes l.out
    ≡ string_bytes l.initial.out
    ++ frame_texts l.machine l.frame
