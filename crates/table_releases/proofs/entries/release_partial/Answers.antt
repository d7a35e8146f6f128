use Rattle.std.proofs.Common.{sym, subst, Err}
use Rattle.xp_words.specs.declared.reply.Stop.{Stop}
use Rattle.kind_words.proofs.KindFacts.{read_is}
use Rattle.table_releases.specs.Between.{ReleasesEntry}
use Rattle.table_releases.proofs.Ways.{releases_lost, resumed_from}
use Rattle.table_releases.proofs.entries.release_partial.Goals as goal

pub resume_work-requires-clause-is : goal.resume_work-requires-clause-is
resume_work-requires-clause-is g c = (read_is c.args.word c.args.kind c.requires.read).0

pub shed_resumed-requires-clause-seen : goal.shed_resumed-requires-clause-seen
shed_resumed-requires-clause-seen g c = (_, _, _, resumed_from c.requires.seen.3 c.requires.read c.requires.partial c.in-Ok.ensures.moves c.in-Ok.ensures.hand)

pub returns-in-Ok : goal.returns-in-Ok
returns-in-Ok g c b t word l = c.shed_resumed.ensures b t word (resumed_from l c.requires.read c.requires.partial c.in-Ok.ensures.moves c.in-Ok.ensures.hand)

pub returns-in-Err : goal.returns-in-Err
returns-in-Err g c b t word l =
    subst (λ (e : Stop). ReleasesEntry b (g.P.Port.value c.resume_work.new.port) c.args.table c.args.index t (Err e)) (sym c.lost.ensures)
    (releases_lost l c.requires.read c.requires.partial c.in-Err.ensures.moves c.in-Err.ensures.lost c.in-Err.ensures.hand)
