use Rattle.rest_laws.proofs.Partials.{at_rest}
use Rattle.rest_laws.proofs.words_are_at_rest_where_nothing_is_left.Goals as goal

pub returns : goal.returns
returns c = at_rest
