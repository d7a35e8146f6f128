-- What each status of a run says of the source and of the sink.
use Rattle.std.specs.Prelude.{◌≡◌, ℕ, ◌⊎◌, Bool, true, false, List, length, Option, Some, None, option_and_then, Result, Ok, Err}
use Rattle.std.specs.Io.KnownBytes.{Consumes, IsAtEnd, Appends, Keeps}
use Rattle.xp_io.specs.Causes.{AppendsFront}
use Rattle.trace_text.specs.declared.trace.Trace.{Trace}
use Rattle.trace_text.specs.TraceOf.{Fault, trace_of}
use Rattle.xp_machine.specs.declared.status.Status.{Status}
use Rattle.xp_machine.specs.declared.status.Status.TheVariants as status
use Rattle.xp_machine.specs.Audited.{IsImageDue}
use Rattle.xp_machine.specs.declared.audits.Showing.TheVariants as showings
use Rattle.xp_machine.specs.Texts.{fault_text, fault_status}
use Rattle.vcpu_runners.specs.Gates.{SetBy}
use Rattle.command_words.specs.declared.asked.Asked.{Asked}
use Rattle.command_words.specs.declared.asked.Asked.TheVariants.{Run, Steps, Image, Generate, Audit, Draw}
use Rattle.command_words.specs.declared.asked.Manner.{Manner}
use Rattle.command_words.specs.declared.asked.Manner.TheVariants as manners
use Rattle.xp_machine.specs.Ran.{ImagedTrace, RanGenerated, RanTrace, ToldTrace}
use Rattle.xp_machine.specs.Replay.{ReplayedTrace}
use Rattle.xp_preempt.specs.Gates.{Gate}

-- these bytes were taken: all that were left, or one more than a trace may have, and no further one
pub record Took (old new : Option (List ℕ)) (bytes : List ℕ) : Type 0 where
  pub consumed : Consumes old new bytes
  pub enough : IsAtEnd new ⊎ (length bytes ≡ 67108865)

-- what is shown of the run of a trace: the report of one in that manner; or of one in one thread the report with the steps behind it, or the image that it leaves
pub data Shown : Type 0 where
  reported : Manner → Shown
  told : Shown
  imaged : Shown

-- a run of the trace with these gates, and the text that shows it: in one thread, by the turns that it asks for, or in threads
abbrev pub RanBy : Shown → Trace → List Gate → List ℕ → Type 0
RanBy (reported manners.Turns) t gates text = RanTrace t gates text
RanBy (reported manners.Replay) t gates text = ReplayedTrace t gates text
RanBy told t gates text = ToldTrace t gates text
RanBy imaged t gates text = ImagedTrace t gates text

-- the status and the text that are due for what the bytes spell: a trace, which is run with these gates, or a fault
abbrev pub IsAnswer : Shown → List Gate → Result Trace Fault → Status → List ℕ → Type 0
IsAnswer shown gates (Ok t) answer text = (answer ≡ status.Done) × RanBy shown t gates text
IsAnswer shown gates (Err e) answer text = (answer ≡ fault_status e.cause) × (text ≡ fault_text e.line e.cause)

-- the status and the text that are due for the bytes that were taken
abbrev pub IsDue : Shown → List Gate → Option (List ℕ) → Option (List ℕ) → Status → List ℕ → Type 0
IsDue shown gates from from' answer text = (bytes : List ℕ) × Took from from' bytes × IsAnswer shown gates (trace_of bytes) answer text

-- ---- by what is due for the bytes that were taken

-- the status is the one that is due, and the text was written
abbrev pub WroteText : (Option (List ℕ) → Option (List ℕ) → Status → List ℕ → Type 0) → Option (List ℕ) → Option (List ℕ) → Option (List ℕ) → Option (List ℕ) → Status → Type 0
WroteText Due from from' to to' answer = (text : List ℕ) × Due from from' answer text × Appends to to' text

-- a front of the text that was due was written
abbrev pub Broke : (Option (List ℕ) → Option (List ℕ) → Status → List ℕ → Type 0) → Option (List ℕ) → Option (List ℕ) → Option (List ℕ) → Option (List ℕ) → Type 0
Broke Due from from' to to' = (text : List ℕ) × (answer : Status) × Due from from' answer text × AppendsFront to to' text

abbrev pub Outcome : (Option (List ℕ) → Option (List ℕ) → Status → List ℕ → Type 0) → Option (List ℕ) → Option (List ℕ) → Option (List ℕ) → Option (List ℕ) → Status → Type 0
Outcome Due from from' to to' status.Done = WroteText Due from from' to to' status.Done
Outcome Due from from' to to' status.BadTrace = WroteText Due from from' to to' status.BadTrace
Outcome Due from from' to to' status.TooLarge = WroteText Due from from' to to' status.TooLarge
Outcome Due from from' to to' status.BadImage = WroteText Due from from' to to' status.BadImage
Outcome Due from from' to to' status.Unsound = WroteText Due from from' to to' status.Unsound
Outcome Due from from' to to' status.WriteFault = Broke Due from from' to to'
Outcome Due from from' to to' status.ReadFault = Keeps to to'
Outcome Due from from' to to' status.Memory = Keeps to to'
Outcome Due from from' to to' status.BadWords = Keeps from from' × Keeps to to'

-- The summary of a run of the generated trace of so many operations was written, or a front of it, or nothing. There is no other outcome.
abbrev pub GeneratedOutcome : ℕ → List Gate → Option (List ℕ) → Option (List ℕ) → Status → Type 0
GeneratedOutcome n gates to to' status.Done = (text : List ℕ) × RanGenerated n gates text × Appends to to' text
GeneratedOutcome n gates to to' status.WriteFault = (text : List ℕ) × RanGenerated n gates text × AppendsFront to to' text
GeneratedOutcome n gates to to' status.Memory = Keeps to to'
GeneratedOutcome n gates to to' status.BadTrace = ⊥
GeneratedOutcome n gates to to' status.TooLarge = ⊥
GeneratedOutcome n gates to to' status.ReadFault = ⊥
GeneratedOutcome n gates to to' status.BadWords = ⊥
GeneratedOutcome n gates to to' status.BadImage = ⊥
GeneratedOutcome n gates to to' status.Unsound = ⊥

-- by what the words ask for: a run of what is read, or of a generated trace, where nothing is read; an audit or a picture of what is read; or nothing at all
abbrev pub OutcomeOf : Option Asked → List Gate → Option (List ℕ) → Option (List ℕ) → Option (List ℕ) → Option (List ℕ) → Status → Type 0
OutcomeOf (Some (Run manner pace)) gates from from' to to' answer = Outcome (IsDue (reported manner) gates) from from' to to' answer
OutcomeOf (Some (Steps pace)) gates from from' to to' answer = Outcome (IsDue told gates) from from' to to' answer
OutcomeOf (Some (Image pace)) gates from from' to to' answer = Outcome (IsDue imaged gates) from from' to to' answer
OutcomeOf (Some (Generate n)) gates from from' to to' answer = Keeps from from' × GeneratedOutcome n gates to to' answer
OutcomeOf (Some Audit) gates from from' to to' answer = Outcome (IsImageDue showings.Line) from from' to to' answer
OutcomeOf (Some Draw) gates from from' to to' answer = Outcome (IsImageDue showings.Drawn) from from' to to' answer
OutcomeOf None gates from from' to to' answer = Keeps from from' × Keeps to to'

-- the pace that the gates are told; a generated run is not to be interrupted, and for an audit or a picture they are told nothing
abbrev pub pace_of : Asked → Option ℕ
pace_of (Run manner pace) = Some pace
pace_of (Steps pace) = Some pace
pace_of (Image pace) = Some pace
pace_of (Generate n) = Some 0
pace_of Audit = None
pace_of Draw = None

abbrev pub OutcomeBy : Option Asked → List Gate → Option (List ℕ) → Option (List ℕ) → Option (List ℕ) → Option (List ℕ) → Status → Type 0
OutcomeBy asked gates from from' to to' answer = (set : List Gate) × SetBy (option_and_then pace_of asked) gates set × OutcomeOf asked set from from' to to' answer

-- whether anything is to be read
abbrev pub reads : Option Asked → Bool
reads (Some (Run manner pace)) = true
reads (Some (Steps pace)) = true
reads (Some (Image pace)) = true
reads (Some (Generate n)) = false
reads (Some Audit) = true
reads (Some Draw) = true
reads None = false

-- what words ask for that are to be run without threads
abbrev pub serial_by : Manner → ℕ → Option Asked
serial_by manners.Turns pace = Some (Run manners.Turns pace)
serial_by manners.Replay pace = None

abbrev pub serial_of : Option Asked → Option Asked
serial_of (Some (Run manner pace)) = serial_by manner pace
serial_of (Some (Steps pace)) = Some (Steps pace)
serial_of (Some (Image pace)) = Some (Image pace)
serial_of (Some (Generate n)) = Some (Generate n)
serial_of (Some Audit) = Some Audit
serial_of (Some Draw) = Some Draw
serial_of None = None
