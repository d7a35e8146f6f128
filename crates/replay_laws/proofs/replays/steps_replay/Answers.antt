use Rattle.replay_laws.proofs.Replaying.{ran_replays}
use Rattle.replay_laws.proofs.replays.steps_replay.Goals as goal

pub returns : goal.returns
returns c = ran_replays
