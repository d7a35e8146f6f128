-- The exit numbers, and the texts that are written where there is no trace or no image.
use Rattle.std.specs.Prelude.{ℕ, List, ◌++◌, codes, decimal}
use Rattle.trace_lines.specs.declared.fault.LineFault.{LineFault}
use Rattle.trace_lines.specs.declared.fault.LineFault.TheVariants.{Passed, Bad}
use Rattle.trace_lines.specs.declared.fault.Cause.{Cause}
use Rattle.trace_lines.specs.declared.fault.Cause.TheVariants as causes
use Rattle.trace_lines.specs.declared.fault.What.{What}
use Rattle.trace_lines.specs.declared.fault.What.TheVariants as whats
use Rattle.walk_audit.specs.declared.verdict.Verdict.{Verdict}
use Rattle.walk_audit.specs.declared.verdict.Verdict.TheVariants.{Sound}
use Rattle.xp_machine.specs.declared.status.Status.{Status}
use Rattle.xp_machine.specs.declared.status.Status.TheVariants as status

abbrev pub exit_of : Status → ℕ
exit_of status.Done = 0
exit_of status.BadWords = 2
exit_of status.BadTrace = 3
exit_of status.TooLarge = 4
exit_of status.ReadFault = 5
exit_of status.WriteFault = 6
exit_of status.Memory = 7
exit_of status.BadImage = 8
exit_of status.Unsound = 9

abbrev pub cause_text : Cause → List ℕ
cause_text causes.End = codes "end"
cause_text causes.Line = codes "line"
cause_text causes.Place = codes "place"
cause_text causes.Range = codes "range"

abbrev pub what_text : What → List ℕ
what_text whats.Bytes = codes "bytes"
what_text whats.Frames = codes "frames"
what_text whats.Domains = codes "domains"
what_text whats.Vcpus = codes "vcpus"
what_text whats.Ops = codes "ops"
what_text whats.Destroys = codes "destroys"
what_text whats.Numbers = codes "numbers"
what_text whats.Extents = codes "extents"
what_text whats.Turns = codes "turns"

-- what is written where that line is at fault
unfoldable pub fault_text : ℕ → LineFault → List ℕ
fault_text line (Bad cause) = codes "bad trace line " ++ (decimal line ++ (codes ": " ++ (cause_text cause ++ codes "\n")))
fault_text line (Passed what number) = codes "too large line " ++ (decimal line ++ (codes ": " ++ (what_text what ++ (codes " " ++ (decimal number ++ codes "\n")))))

unfoldable pub fault_status : LineFault → Status
fault_status (Bad cause) = status.BadTrace
fault_status (Passed what number) = status.TooLarge

-- what is written where the first fault of bytes that are no image is at this place
unfoldable pub bad_image_text : ℕ → List ℕ
bad_image_text at = codes "bad image at " ++ (decimal at ++ codes "\n")

-- sound words, or others
abbrev pub verdict_status : Verdict → Status
verdict_status Sound = status.Done
verdict_status _ = status.Unsound
