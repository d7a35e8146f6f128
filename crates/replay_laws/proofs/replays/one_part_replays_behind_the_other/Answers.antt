use Rattle.replay_laws.proofs.Replaying.{replays_apart, replays_more}
use Rattle.replay_laws.proofs.replays.one_part_replays_behind_the_other.Goals as goal

pub returns-clause-apart : goal.returns-clause-apart
returns-clause-apart c = replays_apart

pub returns-clause-together : goal.returns-clause-together
returns-clause-together c = replays_more
