use Rattle.replay_laws.proofs.Replaying.{found_replays, one_end, replays_found, replays_left}
use Rattle.replay_laws.proofs.replays.a_list_has_one_end.Goals as goal

pub returns-clause-left : goal.returns-clause-left
returns-clause-left c = replays_left

pub returns-clause-one : goal.returns-clause-one
returns-clause-one c = one_end

pub returns-clause-finds : goal.returns-clause-finds
returns-clause-finds c = replays_found

pub returns-clause-replays : goal.returns-clause-replays
returns-clause-replays c = found_replays
