-- The trace that bytes spell, or the first fault in them with its line.
use Rattle.std.specs.Prelude.{◌≡◌, ℕ, ◌+◌, List, [], ◌∷◌, length, Result, Ok, Err, Bool, true, false, ◌==◌, nat_lt, ◌&&◌, if◌then◌else◌}
use Rattle.std.specs.List.{slice_split}
use Rattle.trace_lines.specs.declared.fault.LineFault.{LineFault}
use Rattle.trace_lines.specs.declared.fault.LineFault.TheVariants.{Passed, Bad}
use Rattle.trace_lines.specs.declared.fault.What.TheVariants as whats
use Rattle.trace_lines.specs.declared.fault.LineError.{LineError}
use Rattle.trace_lines.specs.declared.fault.LineError.TheVariants as errors
use Rattle.trace_lines.specs.Steps.{◌>>=◌, bad_end}
use Rattle.trace_lines.specs.Grammar.{line_of}
use Rattle.trace_text.specs.declared.trace.Trace.{Trace}
use Rattle.trace_text.specs.declared.trace.TraceFault.{TraceFault}
use Rattle.trace_text.specs.declared.trace.TraceFault.TheVariants as faults
use Rattle.trace_text.specs.Fronts.{Front, empty_front, front_after}

-- what is wrong, and in which line
pub record Fault : Type 0 where
  pub line : ℕ
  pub cause : LineFault

abbrev pub is_empty : List ℕ → Bool
is_empty [] = true
is_empty (c ∷ cs) = false

-- whether the line begins with `#`
abbrev pub is_comment : List ℕ → Bool
is_comment [] = false
is_comment (c ∷ cs) = c == 35

abbrev pub is_ended : Front → Bool
is_ended f = f.place == 11

-- what one more line makes of the lines so far
unfoldable pub step : Front → List ℕ → Result Front LineFault
step f line = if is_ended f then Err bad_end else if is_comment line then Ok f else line_of f.version line >>= front_after f

abbrev pub at_line : {A : Type 0} → ℕ → Result Front LineFault → (Front → Result A Fault) → Result A Fault
at_line n (Ok f) next = next f
at_line n (Err cause) next = Err (record { line = n; cause = cause })

abbrev pub lines_of : List ℕ → List (List ℕ)
lines_of bytes = slice_split (λ b. b == 10) bytes

-- the trace that the lines say
abbrev pub front_trace : Front → Trace
front_trace f = record { version = f.version; layout = record { frames = f.frames; limit = f.limit; page_limit = f.domains; privilege = f.masks; vcpu_domain = f.vcpus }; clock = f.clock; owned = f.owned; cells = f.cells; scripts = f.scripts; turns = f.turns }

-- What lines from the n-th on make of the lines before them. No line feed ends the last.
unfoldable pub trace_from : Front → ℕ → List (List ℕ) → Result Trace Fault
trace_from f n [] = Err (record { line = n; cause = bad_end })
trace_from f n (last ∷ []) = if is_ended f && is_empty last then Ok (front_trace f) else Err (record { line = n; cause = bad_end })
trace_from f n (line ∷ next ∷ lines) = at_line n (step f line) (λ g. trace_from g (n + 1) (next ∷ lines))

-- More than 67,108,864 bytes are found before any line is read.
unfoldable pub trace_of : List ℕ → Result Trace Fault
trace_of bytes = if nat_lt 67108864 (length bytes) then Err (record { line = 0; cause = Passed whats.Bytes 67108865 }) else trace_from empty_front 1 (lines_of bytes)

abbrev pub fault_of : ℕ → LineError → TraceFault
fault_of line errors.Memory = faults.Memory
fault_of line (errors.At (Bad cause)) = faults.Bad line cause
fault_of line (errors.At (Passed what number)) = faults.Large line what number

-- What was answered is what the bytes spell, or their first fault, unless memory ran out.
abbrev pub Reads : Result Trace TraceFault → Result Trace Fault → Type 0
Reads (Ok t) read = read ≡ Ok t
Reads (Err faults.Memory) read = Unit {0}
Reads (Err (faults.Bad line cause)) read = read ≡ Err (record { line = line; cause = Bad cause })
Reads (Err (faults.Large line what number)) read = read ≡ Err (record { line = line; cause = Passed what number })
