use Rattle.xp_words.proofs.KindLaws.{type_back, type_number_of}
use Rattle.xp_words.proofs.laws.each_type_has_one_number.Goals as goal

pub returns : goal.returns
returns c = record { back = type_back; single = type_number_of }
