use Rattle.std.proofs.Common.{true, sym, subst}
use Rattle.xp_board.specs.declared.step.Act.TheVariants.{Store}
use Rattle.xp_board.specs.GuestSteps.{MayStore}
use Rattle.tlb_walks.specs.Guesting.{read_only, stopped, walked}
use Rattle.tlb_walks.proofs.Guests.{cell_at, may_store_new}
use Rattle.tlb_walks.proofs.accesses.write_uncached.Goals as goal

pub returns-in-Err : goal.returns-in-Err
returns-in-Err g c = λ may none. stopped c.in-Err.stop may none c.in-Err.ensures.moves c.in-Err.ensures.hand

pub store_guest-requires-clause-cached : goal.store_guest-requires-clause-cached
store_guest-requires-clause-cached g c =
    subst (λ f. MayStore f (g.P.Port.value c.walk_to.new.port).holdings) (sym c.frame_at.ensures) (may_store_new _ _ c.args.user c.args.va true c.in-Ok.walked c.in-Ok.ensures.hand c.requires.ready c.in-None.is)

pub returns-in-Some : goal.returns-in-Some
returns-in-Some g c = λ may none. read_only c.in-Ok.walked c.in-Some.entry may none c.in-Some.is c.in-Ok.ensures.moves c.in-Ok.ensures.hand

pub returns-in-None : goal.returns-in-None
returns-in-None g c = λ may none.
    walked _ c.in-Ok.walked _ may none c.in-None.is c.in-Ok.ensures.moves c.in-Ok.ensures.hand
    (cell_at _ _ (Store c.args.val) _ _ _ _ c.store_guest.result c.frame_at.ensures c.word_at.ensures.word c.store_guest.ensures.moves) c.store_guest.ensures.hand
