use Rattle.sound_rule.proofs.RunLaws.{run_sound}
use Rattle.sound_rule.proofs.every_run_stays_sound.Goals as goal

pub returns : goal.returns
returns c = run_sound c.a_legal_step_keeps_the_machine_sound.ensures
