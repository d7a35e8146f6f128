use Rattle.answer_laws.proofs.Aloneness.{never_busy}
use Rattle.answer_laws.proofs.alone.nothing_is_busy_where_others_hold_nothing.Goals as goal

pub returns : goal.returns
returns c = never_busy c.alone_stays.ensures
