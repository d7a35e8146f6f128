use Rattle.rest_laws.proofs.Partials.{named_somehow}
use Rattle.rest_laws.proofs.each_partial_frame_is_named.Goals as goal

pub returns : goal.returns
returns c n m h g sound empty inside partial = named_somehow n m h sound empty g inside partial
