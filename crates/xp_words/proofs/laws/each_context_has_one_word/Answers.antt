use Rattle.xp_words.proofs.ContextLaws.{context_read-write, context_write-read}
use Rattle.xp_words.proofs.laws.each_context_has_one_word.Goals as goal

pub returns : goal.returns
returns c = record { back = context_read-write; single = context_write-read }
