use Rattle.xp_words.proofs.RefLaws.{ref_read-write, ref_write-read}
use Rattle.xp_words.proofs.laws.each_reference_has_one_word.Goals as goal

pub returns : goal.returns
returns c = record { back = ref_read-write; single = ref_write-read }
