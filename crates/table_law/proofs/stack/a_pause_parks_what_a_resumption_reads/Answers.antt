use Rattle.table_law.proofs.Parking.{resumed_is}
use Rattle.table_law.proofs.Telling.{stack_told_is}
use Rattle.table_law.proofs.stack.a_pause_parks_what_a_resumption_reads.Goals as goal

pub returns-clause-resumed : goal.returns-clause-resumed
returns-clause-resumed c stack kept p is g = resumed_is stack kept p is g

pub returns-clause-told : goal.returns-clause-told
returns-clause-told c x xs kept p is chain none = stack_told_is x xs kept p is chain none
