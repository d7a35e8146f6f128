use Rattle.table_bases.proofs.Behind.{emptied, may_empty_by}
use Rattle.table_bases.proofs.installing.flush_behind.Goals as goal

pub flush-requires : goal.flush-requires
flush-requires g c = may_empty_by (g.P.Port.value c.args.port.now) (g.P.Port.value c.flush_own.new.port) _ c.in-Err.ensures.flushes c.requires.warm c.requires.landed

pub returns-in-Err-clause-flushes : goal.returns-in-Err-clause-flushes
returns-in-Err-clause-flushes g c =
    emptied (g.P.Port.value c.args.port.now) (g.P.Port.value c.flush_own.new.port) (g.P.Port.value c.flush.new.port) _ c.flush.result c.in-Err.ensures.flushes c.flush.ensures.moves
