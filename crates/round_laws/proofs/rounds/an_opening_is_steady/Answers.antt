use Rattle.round_laws.proofs.Opening.{steady_opening}
use Rattle.round_laws.proofs.rounds.an_opening_is_steady.Goals as goal

pub returns : goal.returns
returns c t opened gates well sparing opening = steady_opening t opened gates well sparing (c.opening_words_are_sound.ensures t opened well opening) opening
