-- What a verdict says of the words of a machine.
use Rattle.std.specs.Prelude.{ℕ, List}
use Rattle.xp_words.specs.Machine.{Machine}
use Rattle.xp_words.specs.Places.{sizes_of, memory}
use Rattle.xp_board.specs.Sound.{SoundWords}
use Rattle.walk_audit.specs.Order.{ComesFirst}
use Rattle.walk_audit.specs.declared.verdict.Verdict.{Verdict}
use Rattle.walk_audit.specs.declared.verdict.Verdict.TheVariants as verdicts

-- this breaks the words, and nothing that comes before it does
abbrev pub BreaksFirst : Machine → List ℕ → Verdict → Type 0
BreaksFirst n words v = ComesFirst n (memory (sizes_of n) words) v

-- they are sound, or this breaks them, and nothing that comes before it does
unfoldable pub Judged : Machine → List ℕ → Verdict → Type 0
Judged n words verdicts.Sound = SoundWords n words
Judged n words v = BreaksFirst n words v
