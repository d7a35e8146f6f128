use Rattle.refusal_laws.proofs.Sparing.{had_sparing}
use Rattle.refusal_laws.proofs.repeated.an_acquisition_that_is_had_touches_no_other_words.Goals as goal

pub returns : goal.returns
returns c v w f owner level g answers q telling acquired off = (had_sparing v f owner level w answers g acquired).same telling q off
