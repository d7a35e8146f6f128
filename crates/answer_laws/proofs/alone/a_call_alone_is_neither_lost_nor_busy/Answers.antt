use Rattle.answer_laws.proofs.Aloneness.{due_or_flush}
use Rattle.answer_laws.proofs.alone.a_call_alone_is_neither_lost_nor_busy.Goals as goal

pub returns : goal.returns
returns c = due_or_flush c.nothing_is_busy_where_others_hold_nothing.ensures c.nothing_is_lost.ensures
