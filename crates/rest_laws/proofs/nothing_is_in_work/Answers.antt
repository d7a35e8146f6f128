use Rattle.rest_laws.proofs.Partials.{is_idle}
use Rattle.rest_laws.proofs.nothing_is_in_work.Goals as goal

pub returns : goal.returns
returns c = is_idle
