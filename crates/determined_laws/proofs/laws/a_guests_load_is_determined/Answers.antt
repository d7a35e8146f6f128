use Rattle.determined_laws.proofs.Accesses.{reads_tie}
use Rattle.determined_laws.proofs.laws.a_guests_load_is_determined.Goals as goal

pub returns : goal.returns
returns c = reads_tie
