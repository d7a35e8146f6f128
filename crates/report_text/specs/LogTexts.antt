-- The lines of a vCPU's log.
use Rattle.std.specs.Prelude.{ℕ, ◌==◌, if◌then◌else◌, List, [], ◌++◌, Option, Some, None, codes, decimal}
use Rattle.std.specs.List.{flat_map}
use Rattle.xp_words.specs.declared.reply.LogLine.{LogLine}
use Rattle.xp_words.specs.declared.reply.LogLine.TheVariants.{Answer, Given, Left}
use Rattle.xp_words.specs.declared.reply.Refusal.{Refusal}
use Rattle.xp_words.specs.declared.reply.Refusal.TheVariants as refusals
use Rattle.report_text.specs.WordTexts.{hex, ref_text, kind_text, type_text}

-- the number of a refusal
abbrev pub refusal_number : Refusal → ℕ
refusal_number (refusals.NoFrame frame) = 1
refusal_number (refusals.WrongOwner frame found) = 2
refusal_number (refusals.OtherType frame want found) = 3
refusal_number (refusals.Reserved frame index entry) = 4
refusal_number (refusals.CountFull frame found) = 5
refusal_number (refusals.AlreadyPinned found) = 6
refusal_number (refusals.NotPinned found) = 7
refusal_number (refusals.Slot index) = 8
refusal_number (refusals.NotMapped level entry) = 9
refusal_number (refusals.ReadOnly entry) = 10
refusal_number refusals.NonCanonical = 11
refusal_number (refusals.NoPrivilege caller domain) = 12
refusal_number refusals.NoDomain = 13
refusal_number (refusals.Dying domain found) = 14
refusal_number (refusals.DomainFull found) = 15
refusal_number refusals.NoFree = 16
refusal_number refusals.BadRange = 17
refusal_number (refusals.BadDescriptor frame index word) = 18
refusal_number refusals.BadCommand = 19
refusal_number (refusals.Clock found) = 20
refusal_number refusals.BatchLong = 21
refusal_number (refusals.InUse frame found) = 22

-- the name of a refusal and what was found
unfoldable pub refusal_text : Refusal → List ℕ
refusal_text (refusals.NoFrame frame) = codes "NoFrame frame=" ++ decimal frame
refusal_text (refusals.WrongOwner frame found) = codes "WrongOwner frame=" ++ (decimal frame ++ (codes " found=" ++ ref_text found))
refusal_text (refusals.OtherType frame want found) = codes "OtherType frame=" ++ (decimal frame ++ (codes " want=" ++ (type_text want ++ (codes " found=" ++ kind_text found))))
refusal_text (refusals.Reserved frame index entry) = codes "Reserved frame=" ++ (decimal frame ++ (codes " index=" ++ (decimal index ++ (codes " entry=" ++ hex entry))))
refusal_text (refusals.CountFull frame found) = codes "CountFull frame=" ++ (decimal frame ++ (codes " found=" ++ ref_text found))
refusal_text (refusals.AlreadyPinned found) = codes "AlreadyPinned found=" ++ kind_text found
refusal_text (refusals.NotPinned found) = codes "NotPinned found=" ++ kind_text found
refusal_text (refusals.Slot index) = codes "Slot index=" ++ decimal index
refusal_text (refusals.NotMapped level entry) = codes "NotMapped level=" ++ (decimal level ++ (codes " entry=" ++ hex entry))
refusal_text (refusals.ReadOnly entry) = codes "ReadOnly entry=" ++ hex entry
refusal_text refusals.NonCanonical = codes "NonCanonical"
refusal_text (refusals.NoPrivilege caller domain) = codes "NoPrivilege caller=" ++ (decimal caller ++ (codes " domain=" ++ decimal domain))
refusal_text refusals.NoDomain = codes "NoDomain"
refusal_text (refusals.Dying domain found) = codes "Dying domain=" ++ (decimal domain ++ (codes " found=" ++ decimal found))
refusal_text (refusals.DomainFull found) = codes "DomainFull found=" ++ decimal found
refusal_text refusals.NoFree = codes "NoFree"
refusal_text refusals.BadRange = codes "BadRange"
refusal_text (refusals.BadDescriptor frame index word) = codes "BadDescriptor frame=" ++ (decimal frame ++ (codes " index=" ++ (decimal index ++ (codes " word=" ++ hex word))))
refusal_text refusals.BadCommand = codes "BadCommand"
refusal_text (refusals.Clock found) = codes "Clock found=" ++ decimal found
refusal_text refusals.BatchLong = codes "BatchLong"
refusal_text (refusals.InUse frame found) = codes "InUse frame=" ++ (decimal frame ++ (codes " found=" ++ ref_text found))

-- operation and call, where call 0 is the operation itself
unfoldable pub step_text : ℕ → ℕ → List ℕ
step_text op call = codes "op " ++ (decimal op ++ (if call == 0 then [] else codes " call " ++ decimal call))

-- how an operation or a call ended
abbrev pub answer_text : ℕ → ℕ → Option Refusal → List ℕ
answer_text done value None = codes " ok done " ++ (decimal done ++ (codes " value " ++ hex value))
answer_text done value (Some r) = codes " refused " ++ (decimal (refusal_number r) ++ (codes " done " ++ (decimal done ++ (codes " " ++ refusal_text r))))

-- one line of a log
unfoldable pub log_line : LogLine → List ℕ
log_line (Answer op call reply) = step_text op call ++ (answer_text reply.done reply.value reply.refusal ++ codes "\n")
log_line (Given op call extent frame) = step_text op call ++ (codes " given " ++ (decimal extent ++ (codes " " ++ (decimal frame ++ codes "\n"))))
log_line (Left op frame found) = codes "op " ++ (decimal op ++ (codes " left " ++ (decimal frame ++ (codes " refs " ++ (ref_text found ++ codes "\n")))))

-- a whole log
unfoldable pub log_lines : List LogLine → List ℕ
log_lines lines = flat_map log_line lines
