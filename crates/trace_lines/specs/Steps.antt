-- Steps that give a value, or what is wrong with the line.
use Rattle.std.specs.Prelude.{◌≡◌, List, ◌++◌, Result, Ok, Err}
use Rattle.trace_lines.specs.declared.fault.Cause.TheVariants as causes
use Rattle.trace_lines.specs.declared.fault.LineFault.{LineFault}
use Rattle.trace_lines.specs.declared.fault.LineFault.TheVariants as faults
use Rattle.trace_lines.specs.declared.fault.LineError.{LineError}
use Rattle.trace_lines.specs.declared.fault.LineError.TheVariants as errors

infixl 10 ◌>>=◌
abbrev pub ◌>>=◌ : {A B : Type 0} → Result A LineFault → (A → Result B LineFault) → Result B LineFault
(Ok x) >>= f = f x
(Err e) >>= f = Err e

-- what a list gives that has items in front
abbrev pub with_front : {A : Type 0} → List A → Result (List A) LineFault → Result (List A) LineFault
with_front front r = r >>= λ xs. Ok (front ++ xs)

abbrev pub bad_end : LineFault
bad_end = faults.Bad causes.End

abbrev pub bad_line : LineFault
bad_line = faults.Bad causes.Line

abbrev pub bad_place : LineFault
bad_place = faults.Bad causes.Place

abbrev pub bad_range : LineFault
bad_range = faults.Bad causes.Range

-- An error is what the step gives, or want of memory.
abbrev pub Fails : {Y : Type 0} → LineError → Result Y LineFault → Type 0
Fails errors.Memory step = Unit {0}
Fails (errors.At s) step = step ≡ Err s

-- What a function returned, seen by view, is what the step gives, unless memory ran out.
abbrev pub Gives : {X Y : Type 0} → (X → Y) → Result X LineError → Result Y LineFault → Type 0
Gives view (Ok x) step = step ≡ Ok (view x)
Gives view (Err e) step = Fails e step
