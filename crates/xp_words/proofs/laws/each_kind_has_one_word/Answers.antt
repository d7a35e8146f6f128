use Rattle.xp_words.proofs.KindLaws.{kind_read-write, kind_write-read}
use Rattle.xp_words.proofs.laws.each_kind_has_one_word.Goals as goal

pub returns : goal.returns
returns c = record { back = kind_read-write; single = kind_write-read }
