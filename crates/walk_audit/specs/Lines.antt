-- How a verdict is told, in one line. Numbers are decimal, but for a word that was found.
use Rattle.std.specs.Prelude.{List, ℕ, ◌++◌, false, codes, decimal}
use Rattle.std.specs.Fmt.{digits}
use Rattle.walk_audit.specs.declared.verdict.Verdict.{Verdict}
use Rattle.walk_audit.specs.declared.verdict.Verdict.TheVariants as verdicts

-- a line without its line feed
abbrev pub verdict_text : Verdict → List ℕ
verdict_text verdicts.Sound = codes "sound"
verdict_text (verdicts.Word place found) = codes "word " ++ (decimal place ++ (codes " found 0x" ++ digits 16 false found))
verdict_text (verdicts.Held frame) = codes "frame " ++ (decimal frame ++ codes " held")
verdict_text (verdicts.Refs frame want found) = codes "frame " ++ (decimal frame ++ (codes " refs want " ++ (decimal want ++ (codes " found " ++ decimal found))))
verdict_text (verdicts.Count frame want found) = codes "frame " ++ (decimal frame ++ (codes " count want " ++ (decimal want ++ (codes " found " ++ decimal found))))
verdict_text (verdicts.OtherKind frame) = codes "frame " ++ (decimal frame ++ codes " type")
verdict_text (verdicts.Pages domain want found) = codes "domain " ++ (decimal domain ++ (codes " pages want " ++ (decimal want ++ (codes " found " ++ decimal found))))
verdict_text (verdicts.BadEntry frame index) = codes "entry " ++ (decimal frame ++ (codes " " ++ decimal index))
verdict_text (verdicts.Context vcpu word) = codes "context " ++ (decimal vcpu ++ (codes " " ++ decimal word))
verdict_text (verdicts.Stamp place) = codes "stamp " ++ decimal place
verdict_text (verdicts.Dead domain) = codes "dead " ++ decimal domain
verdict_text (verdicts.Map word) = codes "map " ++ decimal word
