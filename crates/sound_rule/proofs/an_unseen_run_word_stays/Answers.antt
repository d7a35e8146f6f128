use Rattle.sound_rule.proofs.OwnRun.{own_run}
use Rattle.sound_rule.proofs.an_unseen_run_word_stays.Goals as goal

pub returns : goal.returns
returns c = own_run c.every_run_stays_sound.ensures
