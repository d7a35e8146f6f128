use Rattle.xp_board.specs.declared.step.Act.TheVariants.{Store}
use Rattle.tlb_walks.proofs.RowSteps.{guest_same, may_store}
use Rattle.tlb_walks.proofs.accesses.store_guest.Goals as goal

pub make-requires : goal.make-requires
make-requires g c = may_store _ c.args.frame c.args.index c.args.word c.requires.frame c.requires.index c.requires.ready c.ranges.word.fits c.requires.cached

pub returns-clause-hand : goal.returns-clause-hand
returns-clause-hand g c = guest_same _ c.requires.ready _ c.args.frame c.args.index c.make.result (Store c.args.word) c.make.ensures
