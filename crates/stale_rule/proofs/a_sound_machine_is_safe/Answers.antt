use Rattle.stale_rule.proofs.Paths.{sound_safe}
use Rattle.stale_rule.proofs.a_sound_machine_is_safe.Goals as goal

pub returns : goal.returns
returns c = sound_safe
