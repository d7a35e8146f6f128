use Rattle.sound_rule.proofs.RestParts.{words_rested}
use Rattle.sound_rule.proofs.rested_words_are_sound.Goals as goal

pub returns : goal.returns
returns c = words_rested c.empty_hands_are_well_formed.ensures
