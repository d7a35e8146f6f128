use Rattle.xp_words.specs.Places.{sizes_of, memory}
use Rattle.walk_audit.proofs.Leading.{leads_both}
use Rattle.walk_audit.proofs.entries.leads_there.Goals as goal

pub returns : goal.returns
returns c =
    leads_both c.args.layout.now (memory (sizes_of c.args.layout.now) c.args.words.now) c.requires.unheld c.args.table c.args.index c.args.target _ _ _ c.requires.target
    c.kind_of.ensures.kind c.kind_of-2.ensures.kind c.leads_well.ensures
