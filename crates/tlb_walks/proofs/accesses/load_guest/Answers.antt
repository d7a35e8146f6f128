use Rattle.xp_board.specs.declared.step.Act.TheVariants.{Load}
use Rattle.tlb_walks.proofs.RowSteps.{guest_same}
use Rattle.tlb_walks.proofs.accesses.load_guest.Goals as goal

pub returns-clause-hand : goal.returns-clause-hand
returns-clause-hand g c = guest_same _ c.requires.ready _ c.args.frame c.args.index c.make.result Load c.make.ensures
