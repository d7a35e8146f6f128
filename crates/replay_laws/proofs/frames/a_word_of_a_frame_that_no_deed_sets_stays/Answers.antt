use Rattle.replay_laws.proofs.Mapping.{map_stays}
use Rattle.replay_laws.proofs.frames.a_word_of_a_frame_that_no_deed_sets_stays.Goals as goal

pub returns : goal.returns
returns c = map_stays
