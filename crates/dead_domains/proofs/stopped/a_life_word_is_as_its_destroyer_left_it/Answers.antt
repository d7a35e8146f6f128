use Rattle.dead_domains.proofs.LifeRuns.{life_left}
use Rattle.dead_domains.proofs.stopped.a_life_word_is_as_its_destroyer_left_it.Goals as goal

pub returns : goal.returns
returns c = life_left c.a_legal_step_keeps_the_dying.ensures c.every_run_stays_sound.ensures
