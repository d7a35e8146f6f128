use Rattle.xp_words.proofs.ContextLaws.{ldt_read-write, ldt_write-read}
use Rattle.xp_words.proofs.laws.each_ldt_base_has_one_word.Goals as goal

pub returns : goal.returns
returns c = record { back = ldt_read-write; single = ldt_write-read }
