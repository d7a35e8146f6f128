use Rattle.std.proofs.Common.{◌≡◌, ◌≤◌}
use Rattle.report_text.specs.ReportOf.{free_frames}
use Rattle.report_text.proofs.whole.free_count.Given as goal

abbrev pub invariant-loop-frame : goal.invariant-loop-frame
invariant-loop-frame l = (l.free ≤ l.frame) × (l.free ≡ free_frames l.machine l.frame)
