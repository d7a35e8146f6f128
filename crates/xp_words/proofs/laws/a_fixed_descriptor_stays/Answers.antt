use Rattle.xp_words.proofs.EntryLaws.{fixed_again, fixed-fits, fixed-rest}
use Rattle.xp_words.proofs.laws.a_fixed_descriptor_stays.Goals as goal

pub returns : goal.returns
returns c = record { again = fixed_again; fits = fixed-fits; rest = fixed-rest }
