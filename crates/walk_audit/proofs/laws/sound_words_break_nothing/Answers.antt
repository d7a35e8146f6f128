use Rattle.xp_words.specs.Places.{sizes_of, memory}
use Rattle.walk_audit.proofs.Unbroken.{nothing_breaks}
use Rattle.walk_audit.proofs.laws.sound_words_break_nothing.Goals as goal

pub returns : goal.returns
returns c n words v s x = nothing_breaks n (memory (sizes_of n) words) s.sound v x
