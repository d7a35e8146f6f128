use Rattle.determined_laws.proofs.References.{put_tie}
use Rattle.determined_laws.proofs.laws.a_reference_given_back_is_determined.Goals as goal

pub returns : goal.returns
returns c = put_tie
