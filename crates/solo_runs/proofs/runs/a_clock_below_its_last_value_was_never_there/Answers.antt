use Rattle.solo_runs.proofs.Ticking.{clock_was_on}
use Rattle.solo_runs.proofs.runs.a_clock_below_its_last_value_was_never_there.Goals as goal

pub returns : goal.returns
returns c v w telling below = clock_was_on v w telling below
