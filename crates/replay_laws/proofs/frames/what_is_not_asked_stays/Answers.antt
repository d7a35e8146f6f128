use Rattle.replay_laws.proofs.Keeping.{left_alone}
use Rattle.replay_laws.proofs.frames.what_is_not_asked_stays.Goals as goal

pub returns : goal.returns
returns c = left_alone
