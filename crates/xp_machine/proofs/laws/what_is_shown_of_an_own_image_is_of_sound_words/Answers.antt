use Rattle.xp_machine.proofs.Imaging.{told_of}
use Rattle.xp_machine.proofs.laws.what_is_shown_of_an_own_image_is_of_sound_words.Goals as goal

pub returns : goal.returns
returns c = told_of
