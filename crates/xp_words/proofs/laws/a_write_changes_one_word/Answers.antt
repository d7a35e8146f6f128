use Rattle.xp_words.proofs.PlaceLaws.{memory_same, memory_other}
use Rattle.xp_words.proofs.laws.a_write_changes_one_word.Goals as goal

pub returns : goal.returns
returns c = record { same = memory_same; other = memory_other }
