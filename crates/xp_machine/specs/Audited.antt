-- What is said of the bytes of an image: the verdict of an audit, or a picture.
use Rattle.std.specs.Prelude.{◌≡◌, ℕ, ◌++◌, ◌⊎◌, List, Option, Some, codes}
use Rattle.xp_io.specs.Causes.{ReadToEnd, TookOneMore}
use Rattle.xp_words.specs.Machine.{Machine}
use Rattle.machine_image.specs.Image.{IsImaged, image_of}
use Rattle.machine_image.specs.Reading.{image_fault}
use Rattle.machine_draw.specs.Drawing.{drawing_of}
use Rattle.walk_audit.specs.Judged.{Judged}
use Rattle.walk_audit.specs.Lines.{verdict_text}
use Rattle.walk_audit.specs.declared.verdict.Verdict.{Verdict}
use Rattle.trace_lines.specs.declared.fault.LineFault.TheVariants.{Passed}
use Rattle.trace_lines.specs.declared.fault.What.TheVariants.{Bytes}
use Rattle.xp_machine.specs.declared.audits.Showing.{Showing}
use Rattle.xp_machine.specs.declared.audits.Showing.TheVariants.{Line, Drawn}
use Rattle.xp_machine.specs.declared.status.Status.{Status}
use Rattle.xp_machine.specs.declared.status.Status.TheVariants as status
use Rattle.xp_machine.specs.Texts.{bad_image_text, fault_text, verdict_status}

-- how words with that verdict are shown: by the verdict as a line; or by a picture, whatever the verdict
abbrev pub Shows : Showing → Machine → List ℕ → Verdict → Status → List ℕ → Type 0
Shows Line machine words verdict answer text = (answer ≡ verdict_status verdict) × (text ≡ verdict_text verdict ++ codes "\n")
Shows Drawn machine words verdict answer text = (answer ≡ status.Done) × (text ≡ drawing_of machine words verdict)

-- these words are shown with a verdict on them
pub record TellsOf (showing : Showing) (machine : Machine) (words : List ℕ) (answer : Status) (text : List ℕ) : Type 0 where
  pub verdict : Verdict
  pub judged : Judged machine words verdict
  pub shown : Shows showing machine words verdict answer text

-- the bytes are the image of a machine, and its words are shown
pub record TellsMachine (showing : Showing) (bytes : List ℕ) (answer : Status) (text : List ℕ) : Type 0 where
  pub machine : Machine
  pub words : List ℕ
  pub imaged : IsImaged machine words
  pub bytes_are : bytes ≡ image_of machine words
  pub told : TellsOf showing machine words answer text

-- they are none, and the first fault is told
pub record TellsFault (bytes : List ℕ) (answer : Status) (text : List ℕ) : Type 0 where
  pub at : ℕ
  pub first : image_fault bytes ≡ Some at
  pub answer_is : answer ≡ status.BadImage
  pub text_is : text ≡ bad_image_text at

-- one byte more than an image may have was taken
pub record TellsLength (from from' : Option (List ℕ)) (answer : Status) (text : List ℕ) : Type 0 where
  pub more : TookOneMore from from' 536870912
  pub answer_is : answer ≡ status.TooLarge
  pub text_is : text ≡ fault_text 0 (Passed Bytes 536870913)

-- the status and the text that are due for bytes that were read to their end
abbrev pub IsJudgement : Showing → List ℕ → Status → List ℕ → Type 0
IsJudgement showing bytes answer text = TellsMachine showing bytes answer text ⊎ TellsFault bytes answer text

-- the status and the text that are due for the bytes that were taken
abbrev pub IsImageDue : Showing → Option (List ℕ) → Option (List ℕ) → Status → List ℕ → Type 0
IsImageDue showing from from' answer text = ((bytes : List ℕ) × ReadToEnd from from' bytes × IsJudgement showing bytes answer text) ⊎ TellsLength from from' answer text
