use Rattle.std.proofs.Common.{refl}
use Rattle.level_validate.proofs.Completed.{live_leaves}
use Rattle.level_validate.proofs.Standing.{top_inside}
use Rattle.level_validate.proofs.completing.complete_outer.Goals as goal

pub make_live-requires-clause-frame : goal.make_live-requires-clause-frame
make_live-requires-clause-frame g c = top_inside c.requires.stands.1.1

pub make_live-requires-clause-leaves : goal.make_live-requires-clause-leaves
make_live-requires-clause-leaves g c = live_leaves c.requires.stands.1.1 c.requires.full c.requires.ready _ refl c.requires.may

pub returns : goal.returns
returns g c = (c.make_live.result, c.make_live.ensures.moves)
