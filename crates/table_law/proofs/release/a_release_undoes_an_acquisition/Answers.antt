use Rattle.table_law.proofs.ReturningTables.{released_same}
use Rattle.table_law.proofs.release.a_release_undoes_an_acquisition.Goals as goal

pub returns : goal.returns
returns c n owner l f p counts is = released_same n owner l f p counts is
