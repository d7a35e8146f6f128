use Rattle.frame_claims.specs.Found.{block_of}
use Rattle.frame_claims.proofs.Trying.{hinted_runs, hinted_words}
use Rattle.frame_claims.proofs.choosing.by_bits.Goals as goal

pub returns-then-size-le64-clause-visits : goal.returns-then-size-le64-clause-visits
returns-then-size-le64-clause-visits g c =
    let v = g.P.Port.value c.args.port.now in
    hinted_words v (g.P.Port.value c.by_words.new.port) v.post.machine c.args.size (block_of c.by_words.result c.by_words.new.stamps.items) c.if-size-le64.true c.by_words.ensures.visits

pub returns-else-size-le64-clause-visits : goal.returns-else-size-le64-clause-visits
returns-else-size-le64-clause-visits g c =
    let v = g.P.Port.value c.args.port.now in
    hinted_runs v (g.P.Port.value c.by_runs.new.port) v.post.machine c.args.size (block_of c.by_runs.result c.by_runs.new.stamps.items) c.if-size-le64.false (c.requires.whole c.if-size-le64.false) c.by_runs.ensures.visits
