use Rattle.table_law.proofs.Lawfully.{fine_by_rest}
use Rattle.table_law.proofs.lawful.a_plain_acquisition_is_fine_where_lawful.Goals as goal

pub returns : goal.returns
returns c n owner l f p low rested = fine_by_rest n owner l f p low rested
