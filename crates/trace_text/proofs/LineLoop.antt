-- The lines of a text, one by one.
use Rattle.std.proofs.Common.{◌≡◌, ℕ, ◌+◌, ◌≤◌, List, [], ◌∷◌, length, Ok, Err, ◌==◌, refl, sym, ap, ◌∙◌, arith}
use Rattle.std.proofs.lemmas.List.Splits.{length-slice_split}
use Rattle.trace_lines.specs.declared.fault.LineFault.TheVariants.{Passed, Bad}
use Rattle.trace_lines.specs.declared.fault.LineError.{LineError}
use Rattle.trace_lines.specs.declared.fault.LineError.TheVariants as errors
use Rattle.trace_lines.specs.Steps.{Fails}
use Rattle.trace_text.specs.Fronts.{Front}
use Rattle.trace_text.specs.TraceOf.{Reads, step, at_line, lines_of, trace_from, fault_of}

some_line : (bytes : List ℕ) → 1 ≤ length (lines_of bytes)
some_line bytes = omega (arith, length-slice_split (λ b. b == 10) bytes)

pub by_line : (f : Front) (n : ℕ) (line : List ℕ) (lines : List (List ℕ)) → 1 ≤ length lines → trace_from f n (line ∷ lines) ≡ at_line n (step f line) (λ g. trace_from g (n + 1) lines)
unfolding trace_from
by_line f n line [] some = absurd (omega arith)
by_line f n line (next ∷ lines) some = refl

-- the first line, and those behind it
first_line : (f : Front) (n : ℕ) (rest line after : List ℕ) → lines_of rest ≡ line ∷ lines_of after → trace_from f n (lines_of rest) ≡ at_line n (step f line) (λ g. trace_from g (n + 1) (lines_of after))
first_line f n rest line after e = ap (trace_from f n) e ∙ by_line f n line (lines_of after) (some_line after)

pub goes_on : (f g : Front) (n : ℕ) (rest line after : List ℕ) → lines_of rest ≡ line ∷ lines_of after → step f line ≡ Ok g → trace_from g (n + 1) (lines_of after) ≡ trace_from f n (lines_of rest)
goes_on f g n rest line after e ok = sym (first_line f n rest line after e ∙ rw ok refl)

pub fails : (f : Front) (n : ℕ) (rest line after : List ℕ) (e : LineError) → lines_of rest ≡ line ∷ lines_of after → Fails e (step f line) → Reads (Err (fault_of n e)) (trace_from f n (lines_of rest))
fails f n rest line after errors.Memory e bad = tt
fails f n rest line after (errors.At (Bad cause)) e bad = first_line f n rest line after e ∙ rw bad refl
fails f n rest line after (errors.At (Passed what number)) e bad = first_line f n rest line after e ∙ rw bad refl
