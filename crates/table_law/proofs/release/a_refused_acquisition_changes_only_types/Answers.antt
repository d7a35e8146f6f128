use Rattle.table_law.proofs.ReturningTables.{refused_same}
use Rattle.table_law.proofs.release.a_refused_acquisition_changes_only_types.Goals as goal

pub returns : goal.returns
returns c n owner l f p cause counts is = refused_same n owner l f p cause counts is
