use Rattle.exchange_laws.proofs.Alone.{ends_alone}
use Rattle.exchange_laws.proofs.exchanges.an_exchange_alone_ends_as_the_plain_one.Goals as goal

pub returns : goal.returns
returns c = ends_alone c.alone_stays.ensures c.a_call_alone_is_neither_lost_nor_busy.ensures c.nobody_is_waited_for.ensures c.an_exchange_leaves_what_the_plain_one_leaves.ensures
